mod SiteRows
mod OneName
pub mod Orders
pub mod Paths
mod Whole
pub mod WrongNames
pub mod Pushed
mod Asked
mod DescriptorRows
