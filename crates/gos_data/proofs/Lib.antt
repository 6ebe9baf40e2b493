pub mod BodyAnswerLemmas
pub mod LocalLemmas
pub mod ArrayLemmas
