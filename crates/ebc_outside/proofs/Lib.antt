pub mod MemoryLemmas
pub mod PieceLemmas
mod Rows
