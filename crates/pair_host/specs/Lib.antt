pub mod PairRunner
pub mod PairReported
pub mod PairDiffers
pub mod PairOnItsWay
