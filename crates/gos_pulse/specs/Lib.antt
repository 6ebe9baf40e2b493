-- In reading order: a file uses only files above it.
pub mod EventNames
pub mod Entries
pub mod PulseFile
pub mod TraceText
pub mod Guarding
pub mod Driving
pub mod Traced
pub mod OneAnswer
pub mod Silence
pub mod inner
