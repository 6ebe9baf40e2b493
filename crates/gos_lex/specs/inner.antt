-- What stands between this crate's own functions and its lemmas, and no public clause cites. In reading order.
pub mod LexemeFaults
pub mod Digits
