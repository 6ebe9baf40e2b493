-- In reading order: a file uses only files above it.
pub mod Fixed
pub mod Search
pub mod Told
pub mod SmallSearches
pub mod laws
