-- In reading order: a file uses only files above it.
pub mod Behind
pub mod Source
pub mod SmallBehind
pub mod SmallSource
