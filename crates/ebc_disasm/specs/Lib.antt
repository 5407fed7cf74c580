pub mod Listings
pub mod CodeItems
pub mod Walks
