-- In reading order: a file uses only files above it.
pub mod Paced
pub mod Told
