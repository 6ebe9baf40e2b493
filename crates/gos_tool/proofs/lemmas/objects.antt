pub mod ImportLemmas
pub mod CheckedLemmas
pub mod CompiledLemmas
pub mod CompleteLemmas
pub mod RepeatedLemmas
