pub mod ClosingLemmas
pub mod GoodLemmas
pub mod WaitLemmas
pub mod ProgressLemmas
pub mod RealiserLemmas
pub mod SmallLemmas
