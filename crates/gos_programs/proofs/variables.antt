pub mod WaitLemmas
pub mod PlacedBackLemmas
pub mod VariableLemmas
pub mod UnfoldedLemmas
pub mod SmallLemmas
