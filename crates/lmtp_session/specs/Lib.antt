pub mod View
pub mod Fields
pub mod Steps
pub mod Added
pub mod CommandLimits
