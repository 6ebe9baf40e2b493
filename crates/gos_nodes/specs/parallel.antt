pub mod Parallel
pub mod SmallParallel
