-- In reading order: a file uses only files above it.
pub mod Rings
pub mod SmallRings
pub mod Depths
pub mod SmallDepths
pub mod Added
pub mod inner
