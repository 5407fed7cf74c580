pub mod Positions
pub mod Spans
