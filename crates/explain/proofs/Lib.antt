pub mod ShownLaws
pub mod HeadLaws
pub mod KeptLaws
