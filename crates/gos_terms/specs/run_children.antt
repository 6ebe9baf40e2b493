-- In reading order: a file uses only files above it.
pub mod Forks
pub mod Forms
pub mod Pairs
pub mod SmallForks
