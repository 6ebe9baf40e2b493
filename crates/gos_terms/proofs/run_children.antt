pub mod BranchLemmas
pub mod NumberLemmas
pub mod ChildLemmas
pub mod PartLemmas
pub mod FormLemmas
pub mod SmallForkLemmas
pub mod PairLemmas
