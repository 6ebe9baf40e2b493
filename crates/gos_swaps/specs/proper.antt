pub mod Proper
pub mod SmallProper
