-- In reading order: a file uses only files above it.
pub mod Lit
pub mod Op
pub mod Waiting
pub mod Not
pub mod Assign
pub mod Deref
pub mod Stored
pub mod BodyAnswer
pub mod Local
pub mod Words
pub mod Array
pub mod Layout
pub mod Ranges
pub mod inner
pub mod laws
