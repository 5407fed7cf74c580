pub mod Conditions
pub mod Locals
pub mod Notes
pub mod Owners
pub mod PointLocals
pub mod Resolved
pub mod TypeKinds
