pub mod Tapes
pub mod Reads
pub mod Spans
pub mod Items
