pub mod Common
pub mod Mapping
