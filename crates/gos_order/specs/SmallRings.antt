-- Small graphs, with a ring and without one.
--
-- Read first: Rings.
use Rattle.std.specs.Prelude.{ℕ, List, [], ◌∷◌}
use Rattle.gos_order.specs.Rings.{Edge, HasRing, Leads}

abbrev edge : ℕ → ℕ → Edge
edge from to = record { from = from; to = to }

-- an edge from a node to itself is a ring
abbrev pub SameIsRing : Type 0
SameIsRing = (a : ℕ) → HasRing (edge a a ∷ [])

-- so are an edge and one back
abbrev pub TwoAreRing : Type 0
TwoAreRing = HasRing (edge 0 1 ∷ edge 1 0 ∷ [])

-- three edges one behind the other have no ring, though their ends are joined by a path, and nor do none
abbrev pub ChainHasNone : Type 0
ChainHasNone = (HasRing (edge 0 1 ∷ edge 2 3 ∷ edge 1 2 ∷ []) → ⊥) × Leads (edge 0 1 ∷ edge 2 3 ∷ edge 1 2 ∷ []) 0 3 × (HasRing [] → ⊥)

-- two ways from one node to another are no ring
abbrev pub ForkHasNone : Type 0
ForkHasNone = HasRing (edge 0 1 ∷ edge 0 2 ∷ edge 1 3 ∷ edge 2 3 ∷ []) → ⊥

-- a ring stays one among more edges
abbrev pub RingsStay : Type 0
RingsStay = (edges : List Edge) (from to : ℕ) → HasRing edges → HasRing (edge from to ∷ edges)
