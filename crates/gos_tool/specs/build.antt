-- In reading order: a file uses only files above it.
pub mod Objects
pub mod Programs
pub mod SmallPrograms
pub mod Headline
pub mod Built
pub mod Complete
pub mod Repeated
pub mod Paced
pub mod inner
