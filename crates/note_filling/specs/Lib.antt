pub mod Ends
pub mod Members
pub mod Places
pub mod Rows
pub mod Kept
pub mod Views
pub mod Causes
pub mod Originals
