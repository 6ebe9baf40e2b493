pub mod FormLemmas
pub mod RegularLemmas
pub mod RealisedLemmas
pub mod ImportLemmas
pub mod LiteralLemmas
pub mod SuppliedLemmas
pub mod ModuleLemmas
