pub mod Filled
mod Blanks
mod Lines
mod GoingOn
mod Values
pub mod FirstBytes
