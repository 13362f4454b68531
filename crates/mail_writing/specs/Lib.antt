pub mod Calendar
pub mod Offer
