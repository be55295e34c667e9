pub mod Bit
pub mod GradeMasks
pub mod Keeps
pub mod Bitwise
