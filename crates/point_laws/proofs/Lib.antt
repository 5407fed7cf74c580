pub mod Common
mod NamesGiven
mod NamesNumbered
mod NoneAgain
mod PointsDocument
mod PointsRead
mod PointsResolved
mod PointsStand
mod Rows
mod TextsRead
mod TomlTexts
