pub mod Target
pub mod Copied
