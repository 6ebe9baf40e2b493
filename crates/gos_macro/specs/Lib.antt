-- In reading order: a file or chapter uses only those above it.
pub mod Gates
pub mod Law
pub mod Fit
pub mod Kept
pub mod Paths
pub mod Cells
pub mod SmallGates
pub mod SmallPaths
pub mod Wires
pub mod laws
pub mod path_search
pub mod causal
