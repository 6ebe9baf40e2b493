-- Proofs that the crates above cite where they give a trait its laws. In reading order: a file uses only files above it.
pub mod Elements
pub mod Renamed
pub mod Found
pub mod Closed
pub mod Told
