pub mod OneRule
pub mod DataTyped
pub mod FlowTyped
pub mod AccessTables
