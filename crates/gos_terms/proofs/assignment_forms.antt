-- In reading order: a file uses only files above it.
pub mod UnreadLemmas
pub mod FoldLemmas
pub mod PointLemmas
pub mod WebLemmas
pub mod OtherLemmas
pub mod SideLemmas
pub mod CoverLemmas
pub mod PlanLemmas
pub mod NodeLemmas
pub mod CaseLemmas
pub mod SteadyLemmas
