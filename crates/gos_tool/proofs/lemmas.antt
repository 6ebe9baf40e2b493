-- The lemmas of each folder of src. In reading order.
pub mod StopLemmas
pub mod AgreeLemmas
pub mod objects
pub mod circuits
pub mod netlists
pub mod simulate
pub mod build
pub mod demo
pub mod explained
