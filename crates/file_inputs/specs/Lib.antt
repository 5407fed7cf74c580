pub mod Faults
pub mod Inputs
pub mod Held
pub mod Linkings
pub mod Reads
