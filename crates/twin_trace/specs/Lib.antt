pub mod BothTraces
