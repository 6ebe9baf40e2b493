-- In reading order: a file uses only files above it.
pub mod Seq
pub mod Par
pub mod Choice
pub mod Repeat
pub mod Layout
pub mod Ranges
pub mod laws
