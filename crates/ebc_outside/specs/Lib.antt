pub mod Counts
pub mod Files
pub mod Answers
pub mod Kept
pub mod Memory
