pub mod DistinctLaws
pub mod MethodLemmas
pub mod OnceLemmas
pub mod RepeatLaws
pub mod VersionLaws
