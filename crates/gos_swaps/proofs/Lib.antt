pub mod doings
pub mod proper
pub mod orders
pub mod heights
pub mod needed
