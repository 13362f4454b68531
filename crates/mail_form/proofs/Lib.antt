pub mod Steps
pub mod Laws
pub mod Sound
pub mod Blocks
