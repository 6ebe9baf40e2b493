-- In reading order: a file uses only files above it.
pub mod Thread
pub mod Fast
pub mod Made
pub mod Layout
pub mod Order
pub mod SmallFast
pub mod inner
pub mod laws
