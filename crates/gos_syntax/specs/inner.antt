-- What stands between this crate's own functions and lemmas, and no public clause cites. In reading order: a file uses only
-- files above it.
pub mod Nested
pub mod Stops
pub mod Beginnings
pub mod Phrases
pub mod Heads
pub mod Answers
