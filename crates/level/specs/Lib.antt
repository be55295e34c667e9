pub mod Levels
pub mod Keeps
