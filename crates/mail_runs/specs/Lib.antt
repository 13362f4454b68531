pub mod Deeds
pub mod Courses
pub mod Histories
pub mod RunOf
pub mod OneLane
pub mod Timed
pub mod Known
pub mod Ordered
