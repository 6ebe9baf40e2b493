-- In reading order: a file uses only files above it.
pub mod Rests
pub mod Composed
pub mod Names
pub mod Pairs
pub mod Resting
pub mod SmallTurned
pub mod Trees
