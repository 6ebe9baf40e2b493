pub mod TokenLemmas
pub mod LostLemmas
pub mod VariableLemmas
pub mod GroundLemmas
pub mod SmallLemmas
