pub mod Written
pub mod Handed
pub mod Listed
mod Escapes
mod Printables
mod Streams
