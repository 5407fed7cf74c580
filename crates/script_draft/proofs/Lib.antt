pub mod Common
pub mod CellLaws
pub mod DraftLaws
pub mod ListLaws
pub mod PieceLaws
pub mod ValueLaws
