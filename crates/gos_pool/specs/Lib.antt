-- In reading order: a file uses only files above it.
pub mod Pools
pub mod Marks
pub mod inner
