pub mod Images
pub mod Checks
pub mod Contents
pub mod Marks
pub mod Places
pub mod Spelled
pub mod Tables
