pub mod Requests
pub mod Maps
pub mod Answers
pub mod Steps
