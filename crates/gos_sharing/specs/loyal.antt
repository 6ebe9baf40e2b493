-- In reading order: a file uses only files above it.
pub mod Seats
pub mod SmallSeats
