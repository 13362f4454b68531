pub mod Arguments
pub mod Boxes
pub mod CommandLine
pub mod Quotas
pub mod Words
