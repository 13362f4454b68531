pub mod Form
pub mod States
pub mod SoFar
