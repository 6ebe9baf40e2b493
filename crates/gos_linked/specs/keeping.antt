-- In reading order: a file uses only files above it.
pub mod Ports
pub mod Keeping
pub mod Paced
