pub mod Objects
pub mod Files
pub mod Readings
pub mod Walks
