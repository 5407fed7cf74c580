mod Parts
pub mod PointedLaws
pub mod RegisterLines
pub mod RowLaws
mod Rows
mod StateRows
