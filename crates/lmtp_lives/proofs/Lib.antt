mod Names
pub mod Told
pub mod ReadBack
mod TwoSites
mod OneCopy
pub mod KilledRuns
mod Spoilt
