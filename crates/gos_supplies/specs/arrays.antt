-- In reading order: a file uses only files above it.
pub mod Accesses
pub mod Indices
pub mod Made
pub mod Accessed
pub mod SmallAccesses
pub mod ArrayNames
pub mod Written
pub mod Writers
