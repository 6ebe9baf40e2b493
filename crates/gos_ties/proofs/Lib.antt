mod JoinLemmas
pub mod FarLemmas
mod CodeLemmas
mod PointLemmas
mod ContactLemmas
pub mod JointLemmas
mod PlanLemmas
pub mod ThinLemmas
pub mod RightLemmas
pub mod OrderLemmas
mod FaultLemmas
