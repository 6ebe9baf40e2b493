pub mod Core
pub mod Cores
pub mod Clear
pub mod Joined
pub mod Beside
pub mod SmallCores
