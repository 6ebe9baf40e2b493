-- In reading order: a file uses only files above it.
pub mod Simulation
pub mod Sim
pub mod Complete
pub mod Repeated
