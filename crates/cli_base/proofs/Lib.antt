pub mod OutputLemmas
