pub mod Block
pub mod Lends
pub mod Ownership
pub mod Slots
pub mod Whole
