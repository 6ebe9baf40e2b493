pub mod keeping
pub mod fits
pub mod linked
