pub mod NameLemmas
pub mod WhenceLemmas
pub mod LeftLemmas
pub mod SupplyLemmas
pub mod SmallLemmas
