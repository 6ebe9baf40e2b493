pub mod Writes
pub mod Windows
pub mod Realised
pub mod Variables
pub mod Written
pub mod Assignments
pub mod SmallWrites
