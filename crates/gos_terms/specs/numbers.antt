-- In reading order: a file uses only files above it.
pub mod Kept
pub mod Inherited
pub mod Unsplit
pub mod SmallKept
