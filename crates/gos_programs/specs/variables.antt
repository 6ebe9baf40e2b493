pub mod Waits
pub mod PlacedBack
pub mod Unfolded
pub mod SmallVariables
