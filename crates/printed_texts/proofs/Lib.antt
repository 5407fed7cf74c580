mod HexLaws
mod PairRows
mod PointRows
mod RunRows
mod SampleRows
pub mod KeptNumbers
pub mod LengthLaws
pub mod PlanLaws
pub mod PrintedTypeLaws
pub mod RangeLaws
pub mod SumLaws
pub mod TextLaws
