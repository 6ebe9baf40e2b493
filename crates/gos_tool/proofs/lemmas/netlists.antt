pub mod NetLemmas
pub mod CompleteLemmas
