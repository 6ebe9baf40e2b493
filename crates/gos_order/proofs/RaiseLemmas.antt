-- Nodes raised one by one.
use Rattle.std.specs.Prelude.{◌≡◌, ◌≢◌, ◌<◌, ℕ, List, length}
use Rattle.gos_order.specs.inner.NodeLists.{at}

-- the nodes of a list before a place are raised
pub record AreRaisedBefore (items : List ℕ) (level : ℕ) (old new : List ℕ) (place : ℕ) : Type 0 where
  pub length : length new ≡ length old
  pub raised : (k : ℕ) → k < place → at new (at items k) ≡ level
  pub others : (node : ℕ) → ((k : ℕ) → k < place → at items k ≢ node) → at new node ≡ at old node
