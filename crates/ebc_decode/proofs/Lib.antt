pub mod Again
pub mod Fields
pub mod Forms
pub mod Found
pub mod Laws
pub mod Numbers
pub mod Parts
mod Rows
pub mod Zeros
