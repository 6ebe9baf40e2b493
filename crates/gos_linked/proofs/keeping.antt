pub mod LabelLemmas
pub mod ListedLemmas
pub mod FollowLemmas
pub mod PeriodLemmas
pub mod KeepingLemmas
pub mod PacedLemmas
