pub mod Found
mod Rising
