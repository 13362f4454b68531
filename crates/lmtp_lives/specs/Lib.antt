pub mod Runs
pub mod ReadBack
pub mod Rows
pub mod Spoilt
