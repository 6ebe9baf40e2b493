-- Lists of nodes: what a search has reached, in the order in which it did.
use Rattle.std.specs.Prelude.{◌≡◌, ◌<◌, ℕ, List, length}
pub use Rattle.gos_order.specs.Depths.{at}

-- different nodes below a bound, in an order
pub record NodeList : Type 0 where
  pub bound : ℕ
  pub items : List ℕ

-- the node stands in the list
abbrev pub IsIn : List ℕ → ℕ → Type 0
IsIn items node = (place : ℕ) × (place < length items) × (at items place ≡ node)
