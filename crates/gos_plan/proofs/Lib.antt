pub mod JointLemmas
pub mod MovedJointLemmas
pub mod BalanceLemmas
pub mod SlotLemmas
pub mod RowLemmas
pub mod ShareTableLemmas
pub mod TurnLemmas
pub mod HeldLemmas
pub mod DecidedLemmas
pub mod AskingLemmas
pub mod ProjectionLemmas
mod RowBitsLemmas
pub mod TokenBitsLemmas
mod PlaceLemmas
pub mod CountLemmas
pub mod AccountLemmas
mod StayLemmas
mod JoiningLemmas
pub mod SmallPlanLemmas
pub mod CallLemmas
mod SmallArrayLemmas
mod SeatLemmas
mod MakeLemmas
pub mod SideLemmas
pub mod TextLemmas
pub mod ItemLemmas
pub mod TableLemmas
pub mod WordLemmas
pub mod FormatLemmas
pub mod TypeLemmas
pub mod OperandLemmas
pub mod PartLemmas
pub mod LineLemmas
pub mod SectionLemmas
pub mod WholeLemmas
pub mod ObjectLemmas
mod TwoFormatLemmas
pub mod WiringLemmas
pub mod ContactLemmas
pub mod ElementLemmas
