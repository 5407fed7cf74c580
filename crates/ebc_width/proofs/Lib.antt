pub mod ByteLaws
pub mod Laws
pub mod Numbers
pub mod RangeLaws
mod Rows
