-- In reading order: a chapter uses only chapters above it.
pub mod sharing
pub mod buffers
pub mod ground_types
pub mod behind
pub mod loyal
pub mod cores
pub mod function_types
pub mod parts_of_types
pub mod pair_types
