pub mod PlaceLemmas
pub mod RunLemmas
pub mod NumeralLemmas
pub mod GapLemmas
pub mod TokenLemmas
pub mod ClassLemmas
pub mod OneReadingLemmas
pub mod ItemLemmas
pub mod NameLemmas
pub mod DecimalLemmas
pub mod SignLemmas
pub mod SequenceLemmas
pub mod NumberTextLemmas
pub mod PassedLemmas
pub mod RestLemmas
pub mod NameTextLemmas
pub mod WordTableLemmas
mod EntryLemmas
mod LineLemmas
mod LineNumberLemmas
mod LineWordLemmas
