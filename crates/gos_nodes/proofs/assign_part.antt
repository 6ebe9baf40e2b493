pub mod TableLemmas
pub mod SideLemmas
pub mod ElementLemmas
pub mod CutLemmas
pub mod SmallLemmas
