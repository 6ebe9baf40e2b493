-- In reading order: a file uses only files above it.
pub mod Ends
pub mod Mapped
pub mod Steady
pub mod Reduced
pub mod Tidy
pub mod Alike
pub mod Laws
pub mod SmallTidy
pub mod inner
