-- In reading order: a file uses only files above it.
pub mod Linked
pub mod Modules
pub mod SmallLinks
