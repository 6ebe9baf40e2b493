pub mod SimulationLemmas
pub mod SimLemmas
pub mod CompleteLemmas
pub mod RepeatedLemmas
