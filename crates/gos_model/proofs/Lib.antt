pub mod SequenceLemmas
mod TraceLemmas
mod ModuleLemmas
pub mod ReachLemmas
mod PathLemmas
mod TypingLemmas
pub mod StoreLemmas
pub mod NumberLemmas
pub mod HeadLemmas
pub mod MoveLemmas
pub mod ArrayPortLemmas
pub mod AccessMapLemmas
mod AccessLemmas
pub mod ArrayLemmas
