pub mod Fields
pub mod Laws
mod Rows
