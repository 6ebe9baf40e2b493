-- In reading order: a chapter uses only chapters above it.
pub mod sessions
pub mod windows
pub mod folds
pub mod nodes
pub mod resting
pub mod parallel
pub mod products
pub mod blocks
pub mod assign_part
pub mod assignments
