mod DotLemmas
mod TableLemmas
mod EntryLemmas
mod TraceLemmas
pub mod GuardLemmas
pub mod PortLemmas
mod OrderLemmas
mod SlotLemmas
pub mod EventLemmas
mod ShownLemmas
mod RangeLemmas
mod SeeLemmas
mod AgendaLemmas
mod QueueLemmas
mod LineLemmas
mod BoardLemmas
mod CycleLemmas
mod RunLemmas
mod QuietLemmas
mod GiveLemmas
mod SilenceLemmas
mod OneEventLemmas
mod OneFileLemmas
mod OneWayLemmas
mod AmongLemmas
mod OneCycleLemmas
mod OneRunLemmas
mod OneTraceLemmas
