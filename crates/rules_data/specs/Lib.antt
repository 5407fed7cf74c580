pub mod Arithmetic
pub mod Compares
pub mod Data
pub mod Moves
pub mod Rule
