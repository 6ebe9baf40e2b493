pub mod Applied
pub mod Projected
pub mod Opened
pub mod SmallFunctions
pub mod InTurn
