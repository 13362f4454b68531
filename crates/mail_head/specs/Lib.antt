pub mod Texts
pub mod MessageIds
