-- The ties of a term whose handshakes lead elsewhere: those where they lead to a result, with other points in its place.
--
-- Read first: Wiring of gos_compile; Wired of wired. So a child's ties within its node are those of its own web.
use Rattle.std.specs.Prelude.{◌≡◌, ℕ, List, length, map, Option, Some, None, slice_get}
use Rattle.gos_check.specs.Nodes.{Numbered}
use Rattle.gos_plan.specs.Plans.{PartEnd, ImportEnd, ResultEnd}
use Rattle.gos_ties.specs.declared.points.Place.{Place}
use Rattle.gos_ties.specs.declared.points.Place.TheVariants as places
use Rattle.gos_ties.specs.declared.points.Point.{Point}
use Rattle.gos_ties.specs.declared.points.Tie as point_ties
use Rattle.gos_ties.specs.Ties as ties
use Rattle.gos_ties.specs.Ties.{point}
use Rattle.gos_joining.specs.webs.Webs.{Dot, Of, Number, Node, Within, tie}
use Rattle.gos_compile.specs.Wiring.{Types, row, ties_of}
use Rattle.gos_terms.specs.wired.Wired.{dot_of, dot_ties}

-- ties with other points
abbrev pub led_by : (Point → Point) → List point_ties.Tie → List point_ties.Tie
led_by f ts = map (λ t. ties.tie (f t.one) (f t.other)) ts

-- the points of parts, numbers and nodes stay
pub record LeavesInner (f : Point → Point) : Type 0 where
  pub part : (k h : ℕ) → f (point (places.Part k) h) ≡ point (places.Part k) h
  pub number : (k h : ℕ) → f (point (places.Number k) h) ≡ point (places.Number k) h
  pub node : (k h : ℕ) → f (point (places.Node k) h) ≡ point (places.Node k) h

-- Where the points stay that a term has inside, its ties follow where its handshakes lead.
abbrev pub TiesFollow : Type 0
TiesFollow =
    (f : Point → Point) (types : Types) (i j : ℕ) (m : Numbered) (out : List Point)
    → LeavesInner f → ties_of types i j m (map f out) ≡ led_by f (ties_of types i j m out)

-- these points in the place of a result
abbrev pub or_point : Option Point → Point → Point
or_point None p = p
or_point (Some q) p = q

abbrev pub at_place : List Point → Place → ℕ → Point
at_place out (places.Part k) h = point (places.Part k) h
at_place out (places.Import k) h = point (places.Import k) h
at_place out places.Result h = or_point (slice_get out h) (point places.Result h)
at_place out (places.Number k) h = point (places.Number k) h
at_place out (places.Node k) h = point (places.Node k) h

abbrev pub leading : List Point → Point → Point
leading out p = at_place out p.place p.shake

-- the same of dots
abbrev pub dot_leading : List Point → Dot → Dot
dot_leading out (Of (PartEnd k h)) = Of (PartEnd k h)
dot_leading out (Of (ImportEnd k h)) = Of (ImportEnd k h)
dot_leading out (Of (ResultEnd h)) = dot_of (or_point (slice_get out h) (point places.Result h))
dot_leading out (Number n h) = Number n h
dot_leading out (Node n h) = Node n h
dot_leading out (Within k d) = Within k d

-- The ties of a term are those that lead to a result, led elsewhere.
abbrev pub ResultLeads : Type 0
ResultLeads =
    (types : Types) (i j : ℕ) (m : Numbered) (out : List Point)
    → ties_of types i j m out ≡ led_by (leading out) (ties_of types i j m (row places.Result 0 (length out)))

abbrev pub DotsLead : Type 0
DotsLead =
    (types : Types) (i j : ℕ) (m : Numbered) (out : List Point)
    → dot_ties (ties_of types i j m out)
    ≡ map (λ t. tie (dot_leading out t.one) (dot_leading out t.other)) (dot_ties (ties_of types i j m (row places.Result 0 (length out))))
