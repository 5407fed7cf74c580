pub mod Outcomes
pub mod Outputs
pub mod Texts
pub mod Faults
pub mod Readings
pub mod Inputs
pub mod Words
