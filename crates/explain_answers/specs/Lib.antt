pub mod Drivers
pub mod Words
