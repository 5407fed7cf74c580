pub mod Completions
pub mod Causes
pub mod Halts
