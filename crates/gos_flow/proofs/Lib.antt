mod RunLemmas
mod TextLemmas
mod EndLemmas
mod CompleteLemmas
pub mod LawLemmas
mod SmallLemmas
