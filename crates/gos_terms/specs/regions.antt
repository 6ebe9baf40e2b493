-- In reading order: a file uses only files above it.
pub mod Spans
pub mod Frames
pub mod Blocks
pub mod SmallFrames
