pub mod Parts
pub mod Heads
pub mod Onward
pub mod Written
pub mod Wholes
pub mod Counted
pub mod Lengthened
