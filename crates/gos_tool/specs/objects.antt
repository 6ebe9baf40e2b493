-- In reading order: a file uses only files above it.
pub mod Checked
pub mod Complete
pub mod Typed
pub mod Compiled
pub mod Repeated
