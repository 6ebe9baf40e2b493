-- Proofs of the laws that a trait asks of this crate's types, and what they stand on. In reading order: a file uses only
-- files above it.
pub mod Pulses
pub mod SeqKept
pub mod ParCounts
pub mod ParFit
pub mod ParKept
pub mod ChoiceCounts
pub mod ChoiceFit
pub mod ChoiceKept
pub mod RepeatCounts
pub mod RepeatKept
pub mod Kept
pub mod Paths
