-- In reading order: a file uses only files above it.
pub mod Lines
pub mod Ends
pub mod Finish
pub mod Texts
pub mod Command
pub mod Run
pub mod Complete
pub mod Repeated
pub mod Back
pub mod SmallRuns
pub mod inner
