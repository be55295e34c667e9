pub mod Readings
pub mod Refusing
pub mod Meaning
pub mod Laws
pub mod Runs
pub mod Bands
pub mod Picks
