pub mod StageLemmas
pub mod ArrayedLemmas
pub mod ArrayLabelLemmas
pub mod ArrayTypeLemmas
pub mod ArrayBackLemmas
pub mod SmallLemmas
