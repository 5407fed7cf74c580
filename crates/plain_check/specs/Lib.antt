pub mod PlainChecks
pub mod PlainRules
pub mod PlainRuns
