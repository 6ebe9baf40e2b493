-- The order of joints: that in which the ends that ask stand in ties.
--
-- Read first: Ties, Counted. Of a tie the one point stands before the other. An end is in one tie at most (`IsThin`), so that it
-- has one position. Joints that rise are told by which they are, and so by their ties.
use Rattle.std.specs.Prelude.{ℕ, suc, ◌≤◌, List, [], ◌∷◌, nat_eq, if◌then◌else◌}
use Rattle.gos_plan.specs.Plans.{Joint}
use Rattle.gos_ties.specs.declared.points.Point.{Point}
use Rattle.gos_ties.specs.declared.points.Tie.{Tie}
use Rattle.gos_ties.specs.Ties.{at}
use Rattle.gos_ties.specs.Counted.{once}

-- the points of ties, in their order
abbrev pub points_of : List Tie → List Point
points_of [] = []
points_of (t ∷ ts) = t.one ∷ t.other ∷ points_of ts

-- how many points stand before the first that is this one
abbrev pub position_in : List Point → Point → ℕ
position_in [] q = 0
position_in (p ∷ ps) q = if nat_eq (once q p) 0 then suc (position_in ps q) else 0

-- the positions of joints rise from one to the next, and begin at n or behind it
abbrev pub Rise : (Joint → ℕ) → ℕ → List Joint → Type 0
Rise position n [] = Unit {0}
Rise position n (j ∷ js) = (n ≤ position j) × Rise position (suc (position j)) js

-- the joints stand in the order in which their asking ends stand in the ties
abbrev pub AreInOrder : List Tie → List Joint → Type 0
AreInOrder ts js = Rise (λ j. position_in (points_of ts) (at j.asking)) 0 js
