-- What only clauses within this crate cite.
pub mod Sizes
pub mod Seen
