-- In reading order: a file uses only files above it.
pub mod Leaves
pub mod RegularLeaves
pub mod Readings
pub mod SmallLeaves
pub mod Splits
pub mod SmallSplits
