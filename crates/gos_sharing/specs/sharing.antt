-- In reading order: a file uses only files above it.
pub mod Sharing
pub mod SmallSharing
