pub mod Heads
pub mod Doings
pub mod Sides
pub mod SmallDoings
