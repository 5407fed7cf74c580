pub mod Common
pub mod CellLaws
pub mod EnterLaws
