pub mod Listening
pub mod Opened
