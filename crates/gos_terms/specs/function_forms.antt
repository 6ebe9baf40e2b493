-- In reading order: a file uses only files above it.
pub mod Bodies
pub mod SmallBodies
pub mod Cases
pub mod Functions
