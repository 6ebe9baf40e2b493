-- In reading order: a file uses only files above it.
pub mod Unions
pub mod Flat
pub mod SmallUnions
