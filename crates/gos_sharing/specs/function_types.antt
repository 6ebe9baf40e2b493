pub mod Split
pub mod Joined
pub mod Realised
pub mod Passing
pub mod SmallSplit
