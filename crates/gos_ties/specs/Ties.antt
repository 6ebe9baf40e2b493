-- Points and ties, and the joints that ties make.
--
-- Read first: Plans of gos_plan. A point is an end of a plan, or lies inside, where two ties may meet. There is a joint for
-- each two ends that a path of ties connects. `Place`, `Point` and `Tie` are those of points.rt.
use Rattle.std.specs.Prelude.{◌≡◌, ℕ, List, [], ◌∷◌, ◌⊎◌, Option, Some, None}
use Rattle.gos_plan.specs.Kinds.{asks, serves}
use Rattle.gos_plan.specs.Plans.{End, PartEnd, ImportEnd, ResultEnd, Joint, Plan, contact_at}
use Rattle.gos_ties.specs.declared.points.Place.{Place}
use Rattle.gos_ties.specs.declared.points.Place.TheVariants as places
use Rattle.gos_ties.specs.declared.points.Point.{Point}
use Rattle.gos_ties.specs.declared.points.Tie.{Tie}

-- a point: a handshake of a place
abbrev pub point : Place → ℕ → Point
point place h = record { place = place; shake = h }

-- the point of an end
abbrev pub at : End → Point
at (PartEnd i h) = point (places.Part i) h
at (ImportEnd i h) = point (places.Import i) h
at (ResultEnd h) = point places.Result h

-- the end at a handshake of a place, and at a point, if there is one
abbrev pub end_of_place : Place → ℕ → Option End
end_of_place (places.Part i) h = Some (PartEnd i h)
end_of_place (places.Import i) h = Some (ImportEnd i h)
end_of_place places.Result h = Some (ResultEnd h)
end_of_place (places.Number k) h = None
end_of_place (places.Node j) h = None

abbrev pub end_at : Point → Option End
end_at p = end_of_place p.place p.shake

-- two points that meet
abbrev pub tie : Point → Point → Tie
tie a b = record { one = a; other = b }

-- one of the ties is between these points, in either order
abbrev pub Meet : List Tie → Point → Point → Type 0
Meet [] a b = ⊥
Meet (t ∷ ts) a b = (t ≡ tie a b) ⊎ (t ≡ tie b a) ⊎ Meet ts a b

-- a path of ties
pub data Path (ts : List Tie) : Point → Point → Type 0 where
  here : (a : Point) → Path ts a a
  along : (a c b : Point) → Meet ts a c → Path ts c b → Path ts a b

-- in a plan the one end asks, the other serves, their bits are equal, and a path of ties connects them
abbrev pub Connects : List Tie → Plan → End → End → Type 0
Connects ts p a b =
    (q : ℕ) × (v : ℕ) × (contact_at p a ≡ Some (asks q v)) × (contact_at p b ≡ Some (serves q v)) × Path ts (at a) (at b)

-- a joint of these ends is among the joints
abbrev pub joint : End → End → Joint
joint a b = record { asking = a; serving = b }

abbrev pub Has : List Joint → Joint → Type 0
Has [] j = ⊥
Has (k ∷ ks) j = (k ≡ j) ⊎ Has ks j
