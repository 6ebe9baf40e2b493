-- In reading order: a file uses only files above it.
pub mod Wiring
pub mod Typed
pub mod Shells
pub mod SmallPlans
pub mod inner
