pub mod WayLemmas
pub mod IdleLemmas
pub mod WebLemmas
pub mod MovedLemmas
pub mod CutLemmas
pub mod LoneCutLemmas
pub mod SmallWebLemmas
pub mod CutListLemmas
