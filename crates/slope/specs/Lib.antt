pub mod Divisor
pub mod Slopes
pub mod Values
pub mod Laws
