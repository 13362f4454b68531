pub mod Lacking
pub mod Program
pub mod Copied
