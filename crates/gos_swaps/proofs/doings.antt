pub mod HeadLemmas
pub mod PlaceLemmas
pub mod SideLemmas
pub mod SmallLemmas
