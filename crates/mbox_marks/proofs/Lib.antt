pub mod Renamed
pub mod Fields
pub mod FieldEnds
