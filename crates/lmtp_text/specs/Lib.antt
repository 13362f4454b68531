pub mod Seen
pub mod Sites
pub mod Paths
pub mod Parameters
pub mod Offers
pub mod Readings
