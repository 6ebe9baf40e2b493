pub mod Progress
pub mod Realisers
pub mod SmallProgress
