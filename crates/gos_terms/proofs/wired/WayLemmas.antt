-- The ways of dots are the paths of points.
use Rattle.std.specs.Prelude.{◌≡◌, ℕ, zero, suc, List, [], ◌∷◌, Contains}
use Rattle.std.proofs.Common.{refl, sym, ◌∙◌, ap, subst, arith, inl, inr}
use Rattle.gos_plan.specs.Plans.{End, PartEnd, ImportEnd, ResultEnd}
use Rattle.gos_ties.specs.declared.points.Place.{Place}
use Rattle.gos_ties.specs.declared.points.Place.TheVariants as places
use Rattle.gos_ties.specs.declared.points.Point.{Point}
use Rattle.gos_ties.specs.declared.points.Tie as point_ties
use Rattle.gos_ties.specs.Ties as paths
use Rattle.gos_ties.specs.Ties.{point, at, Path}
use Rattle.gos_joining.specs.webs.Webs.{Dot, Of, Number, Node, Within, Tie, tie, Meet, Way, here, along}
use Rattle.gos_joining.proofs.unions.UnionLemmas.{Image, of_image}
use Rattle.gos_terms.specs.wired.Wired.{dot_of_place, dot_of, dot_ties}

-- the point of a dot
abbrev pub point_of : Dot → Point
point_of (Of e) = at e
point_of (Number n h) = point (places.Number n) h
point_of (Node n h) = point (places.Node n) h
point_of (Within k d) = point places.Result 0

pub there_and_back : (q : Place) (h : ℕ) → point_of (dot_of_place q h) ≡ point q h
there_and_back (places.Part i) h = refl
there_and_back (places.Import i) h = refl
there_and_back places.Result h = refl
there_and_back (places.Number n) h = refl
there_and_back (places.Node n) h = refl

pub point_is : (q y : Point) → dot_of q ≡ dot_of y → q ≡ y
point_is q y e = sym (there_and_back q.place q.shake) ∙ (ap point_of e ∙ there_and_back y.place y.shake)

pub dot_of_end : (e : End) → dot_of (at e) ≡ Of e
dot_of_end (PartEnd i h) = refl
dot_of_end (ImportEnd i h) = refl
dot_of_end (ResultEnd h) = refl

abbrev dot_tie : point_ties.Tie → Tie
dot_tie t = tie (dot_of t.one) (dot_of t.other)

has_tie : (ts : List point_ties.Tie) (a b : Point) → Contains ts (paths.tie a b) → paths.Meet ts a b
has_tie [] a b (n, small, e) = absurd (omega (arith, small))
has_tie (t ∷ ts) a b (zero, small, e) = inl e
has_tie (t ∷ ts) a b (suc n, small, e) = inr (inr (has_tie ts a b (n, omega (arith, small), e)))

has_tie_back : (ts : List point_ties.Tie) (a b : Point) → Contains ts (paths.tie b a) → paths.Meet ts a b
has_tie_back [] a b (n, small, e) = absurd (omega (arith, small))
has_tie_back (t ∷ ts) a b (zero, small, e) = inr (inl e)
has_tie_back (t ∷ ts) a b (suc n, small, e) = inr (inr (has_tie_back ts a b (n, omega (arith, small), e)))

tie_of_dots : (ts : List point_ties.Tie) (a b : Dot) → Contains (dot_ties ts) (tie a b) → Contains ts (paths.tie (point_of a) (point_of b))
tie_of_dots ts a b has = by_image (of_image dot_tie ts (tie a b) has)
  where
    by_image : Image dot_tie ts (tie a b) → Contains ts (paths.tie (point_of a) (point_of b))
    by_image (t, among, same) =
        let one : t.one ≡ point_of a = sym (there_and_back t.one.place t.one.shake) ∙ ap (λ (u : Tie). point_of u.one) same in
        let other : t.other ≡ point_of b = sym (there_and_back t.other.place t.other.shake) ∙ ap (λ (u : Tie). point_of u.other) same in
        subst (λ (u : point_ties.Tie). Contains ts u) (λ i. paths.tie (one i) (other i)) among

dots_path : (ts : List point_ties.Tie) (a b : Dot) → Way (dot_ties ts) a b → Path ts (point_of a) (point_of b)
dots_path ts a b (here d) = paths.here (point_of d)
dots_path ts a b (along d e f meets way) = paths.along (point_of d) (point_of e) (point_of f) (by_meet meets) (dots_path ts e f way)
  where
    by_meet : Meet (dot_ties ts) d e → paths.Meet ts (point_of d) (point_of e)
    by_meet (inl has) = has_tie ts (point_of d) (point_of e) (tie_of_dots ts d e has)
    by_meet (inr has) = has_tie_back ts (point_of d) (point_of e) (tie_of_dots ts e d has)

-- a way between ends is a path, and back
pub way_path : (ts : List point_ties.Tie) (a b : End) → Way (dot_ties ts) (Of a) (Of b) → Path ts (at a) (at b)
way_path ts a b way = dots_path ts (Of a) (Of b) way

meet_dots : (ts : List point_ties.Tie) (a b : Point) → paths.Meet ts a b → Meet (dot_ties ts) (dot_of a) (dot_of b)
meet_dots [] a b meets = absurd meets
meet_dots (t ∷ ts) a b (inl e) = inl (0, omega arith, ap dot_tie e)
meet_dots (t ∷ ts) a b (inr (inl e)) = inr (0, omega arith, ap dot_tie e)
meet_dots (t ∷ ts) a b (inr (inr rest)) = further (meet_dots ts a b rest)
  where
    further : Meet (dot_ties ts) (dot_of a) (dot_of b) → Meet (dot_ties (t ∷ ts)) (dot_of a) (dot_of b)
    further (inl (n, small, e)) = inl (suc n, omega (arith, small), e)
    further (inr (n, small, e)) = inr (suc n, omega (arith, small), e)

path_dots : (ts : List point_ties.Tie) (a b : Point) → Path ts a b → Way (dot_ties ts) (dot_of a) (dot_of b)
path_dots ts a b (paths.here c) = here (dot_of c)
path_dots ts a b (paths.along c d e meets path) = along (dot_of c) (dot_of d) (dot_of e) (meet_dots ts c d meets) (path_dots ts d e path)

pub path_way : (ts : List point_ties.Tie) (a b : End) → Path ts (at a) (at b) → Way (dot_ties ts) (Of a) (Of b)
path_way ts a b path =
    subst (λ (x : Dot). Way (dot_ties ts) x (Of b)) (dot_of_end a)
    (subst (λ (x : Dot). Way (dot_ties ts) (dot_of (at a)) x) (dot_of_end b) (path_dots ts (at a) (at b) path))
