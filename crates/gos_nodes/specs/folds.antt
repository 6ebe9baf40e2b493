-- In reading order: a file uses only files above it.
pub mod Folds
pub mod SmallFolds
