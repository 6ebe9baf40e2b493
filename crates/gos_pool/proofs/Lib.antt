pub mod RegionLemmas
pub mod MarkLemmas
pub mod MarkOrderLemmas
