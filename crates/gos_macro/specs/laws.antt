-- Proofs of laws that a trait asks of types, which the gates of several kinds cite. In reading order: a file uses only
-- files above it.
pub mod Counting
pub mod AnyOrder
pub mod Putting
pub mod Passing
pub mod SettledCells
pub mod StandingCells
pub mod CellBits
pub mod SkipKept
pub mod SkipPaths
