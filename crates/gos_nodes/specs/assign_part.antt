pub mod Writes
pub mod Tables
pub mod Sides
pub mod Elements
pub mod Cuts
pub mod SmallWrites
