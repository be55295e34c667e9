pub mod Bounds
pub mod Names
