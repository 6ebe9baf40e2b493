-- Depths of the nodes of a graph without a ring.
--
-- Read first: Rings.
use Rattle.std.specs.Prelude.{◌≡◌, ◌<◌, ◌⊎◌, ℕ, suc, List, length, slice_index}
use Rattle.gos_order.specs.Rings.{Graph, HasEdge}

-- the number at a place, and 0 past the end
abbrev pub at : List ℕ → ℕ → ℕ
at = slice_index

-- depths of the nodes of a graph: they rise along each edge, and none is greater than it has to be
pub record AreDepths (graph : Graph) (depths : List ℕ) : Type 0 where
  pub all : length depths ≡ graph.nodes
  pub rise : (a b : ℕ) → HasEdge graph.edges a b → at depths a < at depths b
  pub least : (b : ℕ) → b < graph.nodes → (at depths b ≡ 0) ⊎ ((a : ℕ) × HasEdge graph.edges a b × (at depths b ≡ suc (at depths a)))
