mod Ends
pub mod Fits
mod Indexes
mod Memories
mod Rows
pub mod Machines
pub mod ResultLaws
pub mod RowLaws
pub mod StateLaws
pub mod Steps
pub mod ValueLaws
