-- What stands between this crate's own functions and lemmas, and no public clause cites. In reading order: a file uses only
-- files above it.
pub mod Changes
pub mod Shapes
pub mod Breaches
pub mod Reading
pub mod Fixed
pub mod Roots
pub mod Marks
pub mod Places
