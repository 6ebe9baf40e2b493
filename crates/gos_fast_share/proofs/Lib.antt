pub mod OrderLemmas
pub mod AskingLemmas
pub mod PassingLemmas
pub mod SideLemmas
pub mod FastLemmas
