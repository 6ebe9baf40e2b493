mod RowLemmas
mod TableLemmas
mod NodeLemmas
mod WalkLemmas
mod PlanLemmas
pub mod TallyLemmas
mod ShakeLemmas
pub mod ThinLemmas
mod RangeLemmas
mod SmallPlanLemmas
pub mod KnownLemmas
pub mod BoundLemmas
pub mod AgreeLemmas
pub mod LoadLemmas
mod TypedLemmas
mod EndLemmas
mod SlimLemmas
mod TextLemmas
mod ReadLemmas
mod ShellLemmas
