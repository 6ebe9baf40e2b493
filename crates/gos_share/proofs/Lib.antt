pub mod SharedLemmas
pub mod CellLemmas
pub mod SideLemmas
pub mod SharingLemmas
pub mod PassingLemmas
pub mod ApartLemmas
