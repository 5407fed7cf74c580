pub mod HaltLaws
pub mod CauseLaws
