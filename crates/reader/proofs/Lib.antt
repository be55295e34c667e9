pub mod Faults
pub mod Lawful
pub mod Same
pub mod Firsts
