-- In reading order: a file uses only files above it.
pub mod Sources
pub mod Taken
pub mod LinkedModules
pub mod SmallLinked
pub mod Texts
pub mod Explained
pub mod Verified
pub mod Found
pub mod Complete
pub mod Repeated
pub mod Headlines
pub mod Traces
pub mod SmallRuns
pub mod inner
