-- In reading order: a file uses only files above it.
pub mod Handshakes
pub mod Blocks
pub mod Share
pub mod Layout
pub mod SmallPassing
pub mod inner
pub mod laws
