pub mod Common
pub mod Checked
pub mod Walks
pub mod Takings
pub mod Loops
pub mod Wrapped
