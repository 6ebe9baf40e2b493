-- How often a point is in ties.
--
-- Read first: Ties.
use Rattle.std.specs.Prelude.{◌≡◌, ℕ, ◌+◌, ◌≤◌, List, [], ◌∷◌, Some, nat_eq, if◌then◌else◌}
use Rattle.gos_plan.specs.Plans.{End}
use Rattle.gos_ties.specs.declared.points.Place.{Place}
use Rattle.gos_ties.specs.declared.points.Place.TheVariants as places
use Rattle.gos_ties.specs.declared.points.Point.{Point}
use Rattle.gos_ties.specs.declared.points.Tie.{Tie}
use Rattle.gos_ties.specs.Ties.{end_at}

-- 1 where two places are one, and else 0
abbrev pub place_once : Place → Place → ℕ
place_once (places.Part k) (places.Part n) = if nat_eq n k then 1 else 0
place_once (places.Import k) (places.Import n) = if nat_eq n k then 1 else 0
place_once places.Result places.Result = 1
place_once (places.Number k) (places.Number n) = if nat_eq n k then 1 else 0
place_once (places.Node k) (places.Node n) = if nat_eq n k then 1 else 0
place_once p q = 0

-- the same of two points
abbrev pub once : Point → Point → ℕ
once q p = if nat_eq p.shake q.shake then place_once q.place p.place else 0

-- how often a point is in ties
abbrev pub meetings : Point → List Tie → ℕ
meetings q [] = 0
meetings q (t ∷ ts) = once q t.one + once q t.other + meetings q ts

-- no point is in more than two ties, and no end in more than one
pub record IsThin (ts : List Tie) : Type 0 where
  pub points : (q : Point) → meetings q ts ≤ 2
  pub ends : (q : Point) (e : End) → end_at q ≡ Some e → meetings q ts ≤ 1
