-- In reading order: a file uses only files above it.
pub mod Narrow
pub mod Joined
pub mod Realised
pub mod SmallNarrow
