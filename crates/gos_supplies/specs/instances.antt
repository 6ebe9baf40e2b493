-- In reading order: a file uses only files above it.
pub mod Served
pub mod Trees
pub mod SmallServings
