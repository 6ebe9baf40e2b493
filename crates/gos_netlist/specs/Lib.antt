-- In reading order: a file uses only files above it.
pub mod Nets
pub mod Events
pub mod Settling
pub mod Cycles
pub mod NetText
pub mod Writable
pub mod NetFaults
pub mod Seen
pub mod Renamed
pub mod SmallNets
pub mod Laws
pub mod inner
