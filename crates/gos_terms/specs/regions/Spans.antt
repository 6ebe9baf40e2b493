-- Of what the ties of a term speak: its own parts and nodes, numbers that it makes or uses, and where its handshakes lead.
--
-- Read first: Wiring of gos_compile; Linearity of gos_check (`made`, `used`).
use Rattle.std.specs.Prelude.{ℕ, ◌+◌, ◌<◌, ◌≤◌, ◌⊎◌, List, length, Contains}
use Rattle.gos_check.specs.Nodes.{Numbered}
use Rattle.gos_check.specs.Linearity.{times, made, used}
use Rattle.gos_ties.specs.declared.points.Place.{Place}
use Rattle.gos_ties.specs.declared.points.Place.TheVariants as places
use Rattle.gos_ties.specs.declared.points.Point.{Point}
use Rattle.gos_ties.specs.declared.points.Tie.{Tie}
use Rattle.gos_compile.specs.Wiring.{Types, parts_of, nodes, ties_of}

-- a place is a term's own, whose parts have numbers from i on and its nodes from j on
abbrev pub IsOwnPlace : Types → ℕ → ℕ → Numbered → Place → Type 0
IsOwnPlace types i j m (places.Part k) = (i ≤ k) × (k < i + length (parts_of types m))
IsOwnPlace types i j m (places.Import k) = ⊥
IsOwnPlace types i j m places.Result = ⊥
IsOwnPlace types i j m (places.Number k) = 0 < times k (made m) + times k (used m)
IsOwnPlace types i j m (places.Node k) = (j ≤ k) × (k < j + nodes m)

-- a point is, or is one of those
abbrev pub IsSpoken : Types → ℕ → ℕ → Numbered → List Point → Point → Type 0
IsSpoken types i j m out p = IsOwnPlace types i j m p.place ⊎ Contains out p

-- The points of a term's ties are its own, or those to which its handshakes lead.
abbrev pub TiesSpan : Type 0
TiesSpan =
    (types : Types) (i j : ℕ) (m : Numbered) (out : List Point) (t : Tie)
    → Contains (ties_of types i j m out) t → IsSpoken types i j m out t.one × IsSpoken types i j m out t.other
