-- What stands between this crate's own functions and lemmas, and no public clause cites. In reading order: a file uses
-- only files above it.
pub mod Left
pub mod Parts
pub mod TraceParts
pub mod Keeping
pub mod Compaction
pub mod Lists
pub mod Adding
pub mod Built
pub mod Places
pub mod Jobs
pub mod Rows
pub mod Changes
pub mod Whole
pub mod Stages
pub mod Searches
pub mod Finds
pub mod PortMasks
pub mod Ends
