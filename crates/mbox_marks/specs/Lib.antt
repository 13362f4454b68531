pub mod Marking
pub mod Marked
