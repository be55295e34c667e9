pub mod Ends
pub mod Permits
pub mod Backs
pub mod Fewest
pub mod Reach
pub mod Batches
pub mod Places
pub mod Spans
