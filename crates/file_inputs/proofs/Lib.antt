pub mod ReadingsLemmas
pub mod ReadsLaws
pub mod LinkLemmas
