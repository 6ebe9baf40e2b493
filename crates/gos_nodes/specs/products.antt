pub mod Both
pub mod Cores
pub mod Realised
pub mod SmallBoth
pub mod SmallCores
