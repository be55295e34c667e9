pub mod Phases
pub mod Steps
pub mod Recording
pub mod Asking
pub mod Histories
pub mod Law
pub mod Views
