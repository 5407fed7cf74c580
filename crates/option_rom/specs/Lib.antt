pub mod Fields
pub mod Images
pub mod Conditions
pub mod Roms
pub mod Takes
pub mod Files
pub mod Laws
