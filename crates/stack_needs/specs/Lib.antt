pub mod Depths
pub mod Ways
pub mod Calls
pub mod Walks
