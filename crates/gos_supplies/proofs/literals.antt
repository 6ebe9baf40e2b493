pub mod NumberLemmas
pub mod ClosedLemmas
pub mod LeafLemmas
pub mod SmallLemmas
