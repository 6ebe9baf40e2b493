-- What stands between this crate's own functions and lemmas, and no public clause cites. In reading order: a file uses only
-- files above it.
pub mod NodeLists
pub mod Nodes
pub mod Chains
pub mod Links
pub mod Searches
pub mod Tasks
pub mod Levels
pub mod Sortings
pub mod Orders
