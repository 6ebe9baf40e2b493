-- What stands between this crate's own functions and lemmas, and no public clause cites. In reading order: a file uses only
-- files above it.
pub mod Orders
pub mod Dispatch
pub mod Tokens
pub mod Arrivals
pub mod Departures
pub mod Numbering
pub mod Outers
pub mod Directions
pub mod Choosing
pub mod Ranks
pub mod Raised
