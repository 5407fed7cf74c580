pub mod NamedTypes
pub mod PairTexts
pub mod PrintedStates
pub mod PrintedTypes
pub mod Refusals
pub mod RunTexts
pub mod Samples
