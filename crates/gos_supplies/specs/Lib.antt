-- In reading order: a chapter uses only chapters above it.
pub mod typing
pub mod progress
pub mod names
pub mod ports
pub mod applications
pub mod unfoldings
pub mod literals
pub mod instances
pub mod turns
pub mod unjoined
pub mod arrays
