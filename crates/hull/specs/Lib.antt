pub mod Points
pub mod Hulls
pub mod Lines
pub mod Picked
pub mod Laws
