-- In reading order: a chapter uses only chapters above it.
pub mod realises
pub mod joined
pub mod quiet
