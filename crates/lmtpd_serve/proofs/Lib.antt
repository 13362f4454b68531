mod TroubleLines
mod Unmapped
mod WithLogs
pub mod Said
