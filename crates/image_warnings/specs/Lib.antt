pub mod Around
pub mod Effects
pub mod ImageEffects
pub mod Marks
pub mod Spreading
pub mod Uncut
pub mod Walks
pub mod Warned
