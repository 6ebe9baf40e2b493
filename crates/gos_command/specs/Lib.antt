-- In reading order: a file uses only files above it.
pub mod Files
pub mod Lines
pub mod Ends
pub mod Finish
