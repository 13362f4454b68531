pub mod Handed
pub mod RunOfModel
pub mod House
pub mod HousePlan
