pub mod Common
pub mod StackLaws
pub mod WayLaws
