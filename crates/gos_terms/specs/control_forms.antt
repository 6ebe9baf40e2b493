-- In reading order: a file uses only files above it.
pub mod Runs
pub mod Cases
pub mod SmallRuns
