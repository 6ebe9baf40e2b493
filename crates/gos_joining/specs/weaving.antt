-- In reading order: a file uses only files above it.
pub mod Woven
pub mod SmallWoven
pub mod Flows
