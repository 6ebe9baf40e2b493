pub mod ThingLemmas
pub mod PutLemmas
pub mod ShrinkLemmas
pub mod ProperLemmas
pub mod KeptLemmas
pub mod SmallLemmas
