pub mod HostFrames
pub mod Slots
