pub mod FileSpool
pub mod Moments
pub mod Turn
pub mod Patience
