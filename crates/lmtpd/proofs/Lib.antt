mod FaultRows
pub mod AfterLines
pub mod Arms
pub mod AsAsked
pub mod Unrun
