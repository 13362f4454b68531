pub mod Rows
pub mod Fields
pub mod ArenaParts
pub mod Calls
