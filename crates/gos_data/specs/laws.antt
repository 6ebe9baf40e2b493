-- Proofs of the laws that a trait asks of this crate's types, and what they stand on. In reading order: a file uses only
-- files above it.
pub mod Silent
pub mod LitKept
pub mod OpKept
pub mod WaitingKept
pub mod NotKept
pub mod AssignKept
pub mod DerefKept
pub mod StoredKept
pub mod LocalKept
pub mod LocalFit
pub mod WordsKept
pub mod ArrayFires
pub mod ArrayNext
pub mod ArrayKept
pub mod ArrayOrder
pub mod ArrayWidths
pub mod ArrayFit
pub mod Kept
pub mod Paths
