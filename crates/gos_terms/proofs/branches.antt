pub mod BranchLemmas
pub mod EndLemmas
pub mod PartedLemmas
pub mod CaredLemmas
pub mod OwnLemmas
pub mod SessionLemmas
pub mod SmallLemmas
