-- In reading order: a file uses only files above it.
pub mod Regions
pub mod Nodes
pub mod OpenNodes
pub mod OneSession
pub mod Windows
pub mod Keeping
pub mod Closing
pub mod SmallNodes
