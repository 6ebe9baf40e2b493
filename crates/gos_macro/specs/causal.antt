-- In reading order: a file uses only files above it.
pub mod Causal
pub mod SmallCausal
