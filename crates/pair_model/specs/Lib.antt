pub mod Binds
pub mod Pairs
pub mod Rules
pub mod PairRuns
pub mod PairReports
