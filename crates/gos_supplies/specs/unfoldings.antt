pub mod Heads
pub mod SmallHeads
pub mod Functions
pub mod SmallSuits
pub mod Pairs
pub mod SmallPairs
