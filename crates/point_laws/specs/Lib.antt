pub mod PointTables
pub mod PrintedPoints
