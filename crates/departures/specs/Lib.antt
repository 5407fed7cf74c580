pub mod Above
pub mod Calls
pub mod Departures
pub mod Fields
pub mod Narrow
pub mod Operands
pub mod Texts
