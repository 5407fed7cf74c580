pub mod FrameLaws
pub mod SlotLaws
