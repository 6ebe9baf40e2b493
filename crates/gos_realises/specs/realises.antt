-- In reading order: a file uses only files above it.
pub mod Regular
pub mod Matched
pub mod Links
pub mod Wirings
pub mod Realises
pub mod Slim
pub mod Modules
pub mod SmallTurns
pub mod SmallLinks
pub mod SmallRealisers
pub mod OtherPlans
pub mod Fitting
pub mod Renumbered
pub mod Alone
pub mod Functions
pub mod Inputs
