pub mod Served
