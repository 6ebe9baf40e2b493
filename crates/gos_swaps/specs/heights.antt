pub mod Heights
pub mod SmallHeights
