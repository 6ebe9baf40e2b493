pub mod GateLemmas
pub mod BitLemmas
pub mod ChainLemmas
pub mod BackLemmas
pub mod AddLemmas
pub mod KindLemmas
pub mod CellLemmas
mod PrintLemmas
pub mod ShapeLemmas
mod WholeLemmas
mod LawLemmas
mod ReadLemmas
mod SmallLemmas
mod FaultLemmas
pub mod StandLemmas
pub mod DraftLemmas
pub mod TurnLemmas
pub mod NarrowLemmas
pub mod LayLemmas
pub mod OrderLemmas
pub mod SumLemmas
pub mod SourceLemmas
pub mod CycleLemmas
pub mod RunLemmas
pub mod AmongLemmas
pub mod PortLemmas
pub mod RegisterLemmas
pub mod LoweredLemmas
mod SmallLoweredLemmas
