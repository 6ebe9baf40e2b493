-- What stands between this crate's own functions and lemmas, and no public clause cites.
pub mod Inside
