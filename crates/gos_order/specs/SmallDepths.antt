-- Depths of a small graph, and what are none; and what depths are of every graph.
--
-- Read first: Rings, Depths.
use Rattle.std.specs.Prelude.{◌≡◌, ◌≤◌, ℕ, suc, List, [], ◌∷◌}
use Rattle.gos_order.specs.Rings.{Edge, Graph, HasEdge, HasRing}
use Rattle.gos_order.specs.Depths.{at, AreDepths}

abbrev edge : ℕ → ℕ → Edge
edge from to = record { from = from; to = to }

-- a chain of two edges, and an edge from its beginning to its end
abbrev pub chain_and_edge : Graph
chain_and_edge = record { nodes = 3; edges = edge 0 1 ∷ edge 1 2 ∷ edge 0 2 ∷ [] }

-- the end lies behind the longer way
abbrev pub ChainHasDepths : Type 0
ChainHasDepths = AreDepths chain_and_edge (0 ∷ 1 ∷ 2 ∷ [])

-- and not behind the shorter one alone
abbrev pub ShorterIsNone : Type 0
ShorterIsNone = AreDepths chain_and_edge (0 ∷ 1 ∷ 1 ∷ []) → ⊥

-- no depth is greater than it has to be, neither at the end nor all along
abbrev pub DeeperIsNone : Type 0
DeeperIsNone = (AreDepths chain_and_edge (0 ∷ 1 ∷ 3 ∷ []) → ⊥) × (AreDepths chain_and_edge (1 ∷ 2 ∷ 3 ∷ []) → ⊥)

-- each node has a depth, and nothing else has
abbrev pub OthersAreNone : Type 0
OthersAreNone = (AreDepths chain_and_edge (0 ∷ 1 ∷ []) → ⊥) × (AreDepths chain_and_edge (0 ∷ 1 ∷ 2 ∷ 0 ∷ []) → ⊥)

-- nodes without edges lie at 0
abbrev pub LooseHaveZero : Type 0
LooseHaveZero = AreDepths (record { nodes = 2; edges = [] }) (0 ∷ 0 ∷ [])

-- a graph has these depths alone
abbrev pub DepthsAreFixed : Type 0
DepthsAreFixed = (graph : Graph) (ds es : List ℕ) → AreDepths graph ds → AreDepths graph es → ds ≡ es

-- a graph with a ring has none
abbrev pub RingsHaveNone : Type 0
RingsHaveNone = (graph : Graph) (ds : List ℕ) → AreDepths graph ds → HasRing graph.edges → ⊥

-- a path of so many edges leads from a to b
pub data IsPath (edges : List Edge) : ℕ → ℕ → ℕ → Type 0 where
  empty : (a : ℕ) → IsPath edges 0 a a
  longer : (n a b c : ℕ) → IsPath edges n a b → HasEdge edges b c → IsPath edges (suc n) a c

-- a path of so many edges leads to a node, and none of more edges does
abbrev pub DepthsAreLongest : Type 0
DepthsAreLongest =
    (graph : Graph) (ds : List ℕ) → AreDepths graph ds → (b : ℕ)
    → ((a : ℕ) × IsPath graph.edges (at ds b) a b) × ((n a : ℕ) → IsPath graph.edges n a b → n ≤ at ds b)
