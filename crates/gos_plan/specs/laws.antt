-- Proofs of the laws that a trait asks of this crate's types, and what they stand on. In reading order: a file uses only
-- files above it.
pub mod Inversion
