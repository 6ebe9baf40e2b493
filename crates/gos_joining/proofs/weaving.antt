-- In reading order: a file uses only files above it.
pub mod DotLemmas
pub mod CrossingLemmas
pub mod EndLemmas
pub mod PlanLemmas
pub mod ThinLemmas
pub mod SmallLemmas
pub mod FlowLemmas
