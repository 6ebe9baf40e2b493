-- In reading order: a file uses only files above it.
pub mod Uses
pub mod SmallUses
pub mod Plain
pub mod Realised
