pub mod lemmas
mod WordLemmas
mod EndLemmas
mod CompleteLemmas
mod RepeatedLemmas
mod SmallCallLemmas
