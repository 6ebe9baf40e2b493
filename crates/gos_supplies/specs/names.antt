-- In reading order: a file uses only files above it.
pub mod Names
pub mod SmallNames
pub mod Arrays
pub mod SmallArrays
