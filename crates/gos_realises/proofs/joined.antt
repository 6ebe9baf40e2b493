pub mod ChainLemmas
pub mod ReachLemmas
pub mod StepLemmas
pub mod OriginLemmas
pub mod JoiningLemmas
pub mod WholeLemmas
