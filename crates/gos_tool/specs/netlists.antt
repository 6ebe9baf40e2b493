-- In reading order: a file uses only files above it.
pub mod Netlist
pub mod Tidy
pub mod Gates
pub mod Complete
