pub mod Wire
pub mod DataState
pub mod Dot
pub mod Runs
