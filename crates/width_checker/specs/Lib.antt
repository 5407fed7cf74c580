pub mod Paths
pub mod Rows
pub mod Typed
pub mod Verdicts
pub mod Walks
pub mod StatesAt
