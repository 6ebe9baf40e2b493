pub mod Events
pub mod Types
pub mod Widths
pub mod Handshakes
pub mod Sides
pub mod Ports
pub mod TypeText
pub mod inner
