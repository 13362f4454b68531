pub mod SiteRules
pub mod ListedNames
pub mod Users
pub mod WordSteps
pub mod Finds
pub mod BoxPlaces
pub mod AddressPlaces
pub mod FirstPlaces
pub mod TextLists
pub mod CommandCuts
pub mod ParameterLists
pub mod ParameterTallies
pub mod PathPrefixes
mod Encodings
pub mod PathsBeyond
pub mod MoreOffered
