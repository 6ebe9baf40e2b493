pub mod NarrowLemmas
pub mod BufferLemmas
