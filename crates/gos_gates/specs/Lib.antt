-- In reading order: a file uses only files above it.
pub mod Gates
pub mod Bits
pub mod Lowered
pub mod AagText
pub mod AagFaults
pub mod SmallCircuits
pub mod SmallLowered
pub mod inner
