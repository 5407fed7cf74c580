pub mod BothLaws
