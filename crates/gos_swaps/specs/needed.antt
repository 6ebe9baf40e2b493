pub mod Lists
pub mod Needed
pub mod Blocked
pub mod SmallNeeded
