pub mod RenameLemmas
pub mod EffectLemmas
pub mod AlikeLemmas
pub mod AlikeProperLemmas
pub mod OrderLemmas
pub mod OneLemmas
pub mod MoveLemmas
pub mod SmallLemmas
