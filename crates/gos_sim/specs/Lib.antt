-- In reading order: a file uses only files above it.
pub mod EventNets
pub mod Cycle
pub mod Runs
pub mod Visits
pub mod Repeats
pub mod inner
