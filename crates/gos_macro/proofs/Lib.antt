pub mod GatesLemmas
pub mod PathLemmas
pub mod WireLemmas
pub mod causal
pub mod ChoiceLemmas
pub mod PassingShareLemmas
