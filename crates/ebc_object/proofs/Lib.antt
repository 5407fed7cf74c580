pub mod Tried
pub mod Counted
pub mod Stands
pub mod Again
pub mod Spelled
