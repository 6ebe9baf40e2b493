-- In reading order: a file uses only files above it.
pub mod Flattening
pub mod RunProtocol
pub mod Silence
pub mod Pace
pub mod SmallPace
pub mod SmallInputs
pub mod Cycles
pub mod AnyOrder
pub mod SmallCycles
