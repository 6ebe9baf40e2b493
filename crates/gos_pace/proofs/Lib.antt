pub mod LatchLemmas
pub mod SmallPaceLemmas
pub mod SilentLemmas
pub mod SmallInputLemmas
pub mod OrderLemmas
pub mod SmallCycleLemmas
pub mod CallCycleLemmas
