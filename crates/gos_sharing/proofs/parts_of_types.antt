pub mod RowLemmas
pub mod MovedLemmas
pub mod ThereLemmas
pub mod StepLemmas
pub mod FollowLemmas
pub mod JoinedLemmas
pub mod MeansLemmas
pub mod SmallLemmas
