pub mod contexts
pub mod results
pub mod variables
pub mod arrays
