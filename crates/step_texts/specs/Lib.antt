pub mod PointedTexts
pub mod RowTexts
pub mod StateTexts
pub mod StepTexts
