mod NetLemmas
pub mod PassLemmas
pub mod RepeatLemmas
pub mod SettlingLemmas
pub mod NetsLemmas
pub mod WordLemmas
pub mod LinesLemmas
pub mod CellLemmas
pub mod OperandsLemmas
pub mod TypeLemmas
pub mod PortLemmas
pub mod BreakLemmas
pub mod SectionLemmas
pub mod WholeLemmas
pub mod StageLemmas
pub mod LawLemmas
pub mod LengthLemmas
