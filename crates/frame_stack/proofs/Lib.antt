pub mod FrameLaws
pub mod WordLaws
