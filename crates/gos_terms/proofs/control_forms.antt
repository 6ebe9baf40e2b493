pub mod TypeLemmas
pub mod BranchLemmas
pub mod RunLemmas
pub mod CaseLemmas
pub mod SmallLemmas
