pub mod Stages
pub mod LocalArray
pub mod ArrayWaits
pub mod SmallLocalArrays
