-- In reading order: a file uses only files above it.
pub mod Rewired
pub mod Renumbered
pub mod Open
pub mod SmallRewirings
