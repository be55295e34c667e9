pub mod Fitting
pub mod Stepping
