pub mod Labels
pub mod References
pub mod Sought
pub mod Ends
pub mod Indexes
pub mod Views
