-- In reading order: a chapter uses only chapters above it.
pub mod keeping
pub mod fits
pub mod linked
