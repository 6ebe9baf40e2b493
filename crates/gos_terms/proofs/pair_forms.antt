pub mod SideLemmas
pub mod PairLemmas
pub mod CaseLemmas
pub mod SmallPairLemmas
