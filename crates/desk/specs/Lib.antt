pub mod Told
pub mod Widths
