-- In reading order: a file uses only files above it.
pub mod OneLemmas
pub mod SlidLemmas
pub mod ClosedLemmas
pub mod RegularLemmas
pub mod NamedModuleLemmas
pub mod SmallOpenedLemmas
