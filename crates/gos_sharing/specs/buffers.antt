-- In reading order: a file uses only files above it.
pub mod Buffers
pub mod Buffering
pub mod SmallBuffers
