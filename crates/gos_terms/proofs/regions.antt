-- In reading order: a file uses only files above it.
pub mod PartedLemmas
pub mod SpanLemmas
pub mod NumberingLemmas
pub mod FrameLemmas
pub mod ChildLemmas
pub mod FoldLemmas
pub mod CutLemmas
pub mod SideLemmas
pub mod RegionLemmas
pub mod ParallelLemmas
pub mod HolderLemmas
pub mod BodyLemmas
pub mod BlockLemmas
pub mod HeardLemmas
pub mod FreshLemmas
pub mod NamedLemmas
pub mod SmallFrameLemmas
