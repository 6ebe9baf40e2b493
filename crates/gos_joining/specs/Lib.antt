-- In reading order: a chapter uses only chapters above it.
pub mod webs
pub mod weaving
pub mod unions
pub mod renumbered
