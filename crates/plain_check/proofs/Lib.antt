pub mod Common
pub mod Places
pub mod Refusals
pub mod Rows
pub mod Rules
pub mod Runs
pub mod Starts
pub mod Readings
