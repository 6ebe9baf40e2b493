pub mod WayLemmas
pub mod FoldLemmas
pub mod RegionLemmas
pub mod PlanLemmas
pub mod SmallFoldLemmas
pub mod NumberedFoldLemmas
