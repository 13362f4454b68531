pub mod Results
pub mod Limits
