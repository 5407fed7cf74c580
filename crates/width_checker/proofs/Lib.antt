pub mod Common
pub mod Deciding
pub mod Failing
pub mod Leading
pub mod Points
pub mod Walking
