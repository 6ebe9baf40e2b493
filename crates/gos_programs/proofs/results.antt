pub mod TypeLemmas
pub mod PutLemmas
pub mod StepLemmas
pub mod ResultLemmas
pub mod GroundLemmas
pub mod SmallLemmas
