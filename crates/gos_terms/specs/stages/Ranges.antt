-- The points of a term's ties: its own parts and nodes, its numbers, and where its handshakes lead.
--
-- Read first: Wiring of gos_compile. So the ties of two terms with other parts, nodes and numbers have no point in common.
use Rattle.std.specs.Prelude.{ℕ, ◌+◌, ◌<◌, ◌≤◌, length, Contains}
use Rattle.gos_check.specs.Nodes.{Numbered}
use Rattle.gos_check.specs.Linearity.{times, used, made}
use Rattle.gos_ties.specs.declared.points.Place.{Place}
use Rattle.gos_ties.specs.declared.points.Place.TheVariants as places
use Rattle.gos_ties.specs.declared.points.Tie.{Tie}
use Rattle.gos_compile.specs.Wiring.{Types, row, parts_of, nodes, ties_of}

-- a handshake of a place of a term whose parts have numbers from i on, and its nodes from j on; it has n handshakes itself
abbrev pub IsWithin : Types → ℕ → ℕ → Numbered → ℕ → Place → ℕ → Type 0
IsWithin types i j m n (places.Part k) h = (i ≤ k) × (k < i + length (parts_of types m))
IsWithin types i j m n (places.Import k) h = ⊥
IsWithin types i j m n places.Result h = h < n
IsWithin types i j m n (places.Number k) h = 0 < times k (used m) + times k (made m)
IsWithin types i j m n (places.Node k) h = (j ≤ k) × (k < j + nodes m)

abbrev pub TiesStayWithin : Type 0
TiesStayWithin =
    (types : Types) (i j : ℕ) (m : Numbered) (n : ℕ) (t : Tie)
    → Contains (ties_of types i j m (row places.Result 0 n)) t
    → IsWithin types i j m n t.one.place t.one.shake × IsWithin types i j m n t.other.place t.other.shake
