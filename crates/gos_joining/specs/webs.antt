-- In reading order: a file uses only files above it.
pub mod Webs
pub mod Renumbering
pub mod Cutting
pub mod SmallWebs
