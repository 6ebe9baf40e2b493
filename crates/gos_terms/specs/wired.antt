-- In reading order: a file uses only files above it.
pub mod Wired
pub mod Regular
pub mod Modules
pub mod Fitting
pub mod NodeFitting
pub mod SmallWired
