pub mod Forms
pub mod BandRange
pub mod Served
pub mod Extends
