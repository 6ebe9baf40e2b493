-- In reading order: a chapter uses only chapters above it.
pub mod contexts
pub mod results
pub mod variables
pub mod arrays
