pub mod ReadAs
pub mod Fates
pub mod Steps
pub mod Rows
pub mod Lives
pub mod ReadBack
pub mod Spoils
pub mod SpoiltLives
