pub mod Sides
pub mod Cases
pub mod Forks
pub mod SmallForks
pub mod Assignments
pub mod SmallAssignments
