-- Proofs of the laws that a trait asks of this crate's types, and what they stand on. In reading order: a file uses only
-- files above it.
pub mod Rows
pub mod Answers
pub mod Slots
pub mod Requests
pub mod Shown
pub mod Comes
pub mod Pending
pub mod Row
pub mod Late
pub mod Keeping
pub mod Silent
pub mod Own
pub mod Order
pub mod Widths
pub mod Kept
pub mod Cones
pub mod Pairs
pub mod Puts
pub mod Origins
pub mod Ways
pub mod Named
pub mod Paths
