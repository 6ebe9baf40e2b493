pub mod MapLemmas
pub mod StillLemmas
pub mod BodyLemmas
pub mod SuppliedLemmas
