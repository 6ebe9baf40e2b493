pub mod FilesLemmas
pub mod EndLemmas
pub mod LoopLemmas
