-- In reading order: a file uses only files above it.
pub mod ShadowLemmas
pub mod OwnLemmas
pub mod PortLemmas
pub mod GivenLemmas
pub mod SmallLemmas
