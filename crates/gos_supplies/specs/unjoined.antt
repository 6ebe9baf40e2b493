-- In reading order: a file uses only files above it.
pub mod Beside
pub mod Homes
pub mod Loose
pub mod SmallBeside
