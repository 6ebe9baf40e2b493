pub mod Realised
pub mod SmallNodes
