pub mod Journal
pub mod Output
pub mod Printable
