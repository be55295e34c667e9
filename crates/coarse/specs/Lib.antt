pub mod Grid
pub mod Keeps
pub mod Steps
