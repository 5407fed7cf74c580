pub mod Common
pub mod LabelLaws
pub mod EndLaws
pub mod SoughtLaws
