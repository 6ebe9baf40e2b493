-- In reading order: a file uses only files above it.
pub mod Ties
pub mod Counted
pub mod Order
pub mod inner
