pub mod realises
pub mod joined
pub mod quiet
