pub mod LineNames
pub mod ArgumentRows
mod BoxRows
pub mod Calls
pub mod Lacking
pub mod Given
pub mod Numbers
pub mod Prefixes
mod ServeRows
mod UsualNumbers
