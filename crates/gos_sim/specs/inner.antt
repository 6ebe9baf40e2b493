-- What stands between this crate's own functions and lemmas, and no public clause cites. In reading order: a file uses only
-- files above it.
pub mod Program
pub mod Evaluation
pub mod Spots
pub mod Order
pub mod Chains
pub mod Running
pub mod Ready
pub mod Places
pub mod Drafts
pub mod Counting
pub mod Past
pub mod Marks
pub mod Readers
pub mod Active
pub mod Machine
pub mod Sizes
