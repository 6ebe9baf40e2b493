-- What stands between this crate's own functions and lemmas, and no public clause cites. In reading order: a file uses only
-- files above it.
pub mod EventTable
pub mod EntryLine
pub mod Reading
pub mod Slots
pub mod Board
pub mod Agenda
pub mod Queue
pub mod Lines
pub mod Running
