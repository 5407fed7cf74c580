pub mod Cells
pub mod Entering
