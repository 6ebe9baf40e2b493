-- The edges that begin or end at a node, one behind another.
--
-- Read first: NodeLists. A chain is told by places that are one more than the edge's, from the last edge to the first; 0 is none.
use Rattle.std.specs.Prelude.{◌≡◌, ◌≢◌, ◌+◌, ◌<◌, ◌≤◌, ℕ, List, map, length}
use Rattle.gos_order.specs.declared.links.Way.{Way}
use Rattle.gos_order.specs.declared.links.Way.TheVariants.{Out, In}
use Rattle.gos_order.specs.Rings.{Edge, HasEdge}
use Rattle.gos_order.specs.inner.NodeLists.{at}

-- where an edge begins, if it is followed this way
abbrev pub near : Way → Edge → ℕ
near Out edge = edge.from
near In edge = edge.to

-- where an edge ends, if it is followed this way
abbrev pub far : Way → Edge → ℕ
far Out edge = edge.to
far In edge = edge.from

-- an edge that is followed this way leads from a to b
abbrev pub HasStep : Way → List Edge → ℕ → ℕ → Type 0
HasStep Out edges a b = HasEdge edges a b
HasStep In edges a b = HasEdge edges b a

-- the near end of the edge at a place
abbrev pub near_at : Way → List Edge → ℕ → ℕ
near_at way edges place = at (map (near way) edges) place

-- the far end of the edge at a place
abbrev pub far_at : Way → List Edge → ℕ → ℕ
far_at way edges place = at (map (far way) edges) place

-- the last of the first edges that is at a node, or none of them is
pub record IsLast (way : Way) (edges : List Edge) (before node last : ℕ) : Type 0 where
  pub within : last ≤ before
  pub there : (place : ℕ) → last ≡ place + 1 → near_at way edges place ≡ node
  pub others : (place : ℕ) → last ≤ place → place < before → near_at way edges place ≢ node

-- each node has its last edge, and each edge the one of its node before it
pub record AreChained (way : Way) (edges : List Edge) (lasts nexts : List ℕ) : Type 0 where
  pub ends : (node : ℕ) → node < length lasts → IsLast way edges (length edges) node (at lasts node)
  pub links : (place : ℕ) → place < length edges → IsLast way edges place (near_at way edges place) (at nexts place)
