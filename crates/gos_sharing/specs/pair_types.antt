-- In reading order: a file uses only files above it.
pub mod Sides
pub mod Passing
