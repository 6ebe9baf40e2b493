pub mod SeatLemmas
pub mod BeforeLemmas
pub mod SmallSeatLemmas
