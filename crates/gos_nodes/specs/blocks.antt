pub mod Servers
pub mod SmallServers
pub mod Block
pub mod SmallBlocks
