mod TurnLemmas
pub mod WithinLemmas
pub mod CountLemmas
pub mod SideLemmas
pub mod PortLemmas
pub mod BoolLemmas
pub mod RoleLemmas
pub mod ListLemmas
pub mod BytesLemmas
pub mod TypeLemmas
