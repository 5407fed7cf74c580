pub mod NameText
pub mod TableLaws
pub mod Lists
pub mod Truth
pub mod Given
