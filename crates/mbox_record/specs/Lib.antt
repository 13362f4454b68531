pub mod Envelope
pub mod Parts
pub mod Writing
pub mod Lengths
pub mod RecordHead
