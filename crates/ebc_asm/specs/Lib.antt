pub mod Pieces
pub mod Symbols
pub mod Sources
pub mod Held
