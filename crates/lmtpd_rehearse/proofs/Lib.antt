pub mod Listed
pub mod InMemory
pub mod Keeping
pub mod Naming
pub mod Telling
pub mod Boxes
pub mod Ran
