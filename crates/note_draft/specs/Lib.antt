pub mod Drafts
pub mod Findings
pub mod Known
pub mod Names
pub mod Once
pub mod Repeats
