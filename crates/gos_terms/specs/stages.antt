-- In reading order: a file uses only files above it.
pub mod Inside
pub mod InsideRegular
pub mod SmallInside
pub mod Leading
pub mod Ranges
pub mod Lodging
pub mod Housing
pub mod Folding
pub mod SmallLeads
pub mod Served
pub mod Folded
pub mod Regions
pub mod Seated
pub mod Stages
pub mod Nodes
pub mod Covering
