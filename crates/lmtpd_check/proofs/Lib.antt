pub mod Among
pub mod Findings
pub mod After
