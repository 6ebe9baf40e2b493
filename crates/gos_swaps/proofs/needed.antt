pub mod NeededLemmas
pub mod ResidueLemmas
pub mod BlockedLemmas
pub mod SmallLemmas
