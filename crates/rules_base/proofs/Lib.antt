mod Euclid
pub mod FirstRule
pub mod ThingLaws
