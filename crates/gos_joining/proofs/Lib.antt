pub mod webs
pub mod weaving
pub mod unions
pub mod renumbered
