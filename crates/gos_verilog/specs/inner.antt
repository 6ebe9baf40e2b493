-- What stands between the functions of this crate alone.
pub mod Drivers
pub mod Runs
pub mod Slots
pub mod CellLines
pub mod Inputs
pub mod Stages
pub mod Noted
pub mod Parts
pub mod Breaks
pub mod Left
pub mod Faces
