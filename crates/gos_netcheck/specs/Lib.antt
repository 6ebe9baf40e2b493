-- In reading order: a file uses only files above it.
pub mod Rules
pub mod CellRules
pub mod PortRules
pub mod Schedule
pub mod Levels
pub mod Accepted
pub mod inner
