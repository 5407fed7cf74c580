pub mod BesideLaws
