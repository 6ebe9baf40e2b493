-- What stands between this crate's own functions and lemmas, and no public clause cites. In reading order: a file uses only
-- files above it.
pub mod Adding
pub mod Layout
pub mod Shown
pub mod Laying
pub mod Standing
pub mod Orders
pub mod Shapes
