pub mod Plans
pub mod Layout
pub mod Symbols
pub mod Fixups
pub mod Links
pub mod Linked
pub mod PlanTexts
pub mod Walks
