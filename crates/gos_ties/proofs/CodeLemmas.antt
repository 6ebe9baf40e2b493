-- Points of different numbers differ, and paths of ties are chains of bonds.
use Rattle.std.specs.Prelude.{◌≡◌, ℕ, List, [], ◌∷◌, map, Some, slice_get}
use Rattle.std.proofs.Common.{refl, ap, sym, ◌∙◌, subst, inl, inr}
use Rattle.gos_ties.specs.declared.points.Point.{Point}
use Rattle.gos_ties.specs.declared.points.Tie.{Tie}
use Rattle.gos_ties.specs.declared.joining.Bond.{Bond}
use Rattle.gos_ties.specs.Ties.{tie, Meet, Path, here, along}
use Rattle.gos_ties.specs.inner.Joined.{Joins, Leads, stays, goes}
use Rattle.gos_ties.specs.inner.Found.{code, bond_of, IsTied, IsNumbered, AreNumbered}

-- points of one number are one
pub codes_tell : (points : List Point) (p q : Point) → IsNumbered points p → IsNumbered points q → code points p ≡ code points q → p ≡ q
codes_tell points p q one other e = let same : Some p ≡ Some q = sym one ∙ (ap (slice_get points) e ∙ other) in cc same

-- ties that meet are joined, and a path is a chain
pub meet_joins : (points : List Point) (ts : List Tie) (a b : Point) → Meet ts a b → Joins (map (bond_of points) ts) (code points a) (code points b)
meet_joins points [] a b m = m
meet_joins points (t ∷ ts) a b (inl e) = inl (ap (λ (u : Tie). bond_of points u) e)
meet_joins points (t ∷ ts) a b (inr (inl e)) = inr (inl (ap (λ (u : Tie). bond_of points u) e))
meet_joins points (t ∷ ts) a b (inr (inr m)) = inr (inr (meet_joins points ts a b m))

pub path_leads : (points : List Point) (ts : List Tie) (a b : Point) → Path ts a b → Leads (map (bond_of points) ts) (code points a) (code points b)
path_leads points ts a b (here _) = stays (code points a)
path_leads points ts a b (along _ c _ m l) =
    goes (code points a) (code points c) (code points b) (meet_joins points ts a c m) (path_leads points ts c b l)

-- and a bond is between points of a tie
joins_meet : (points : List Point) (ts : List Tie) → AreNumbered points ts → (a : Point) → IsNumbered points a → (y : ℕ)
    → Joins (map (bond_of points) ts) (code points a) y → (c : Point) × (y ≡ code points c) × IsTied ts c × Meet ts a c
joins_meet points [] known a own y j = absurd j
joins_meet points (t ∷ ts) known a own y (inl e) =
    let same : t.one ≡ a = codes_tell points t.one a (known t.one (inl refl)) own (ap (λ (u : Bond). u.one) e) in
    (t.other, sym (ap (λ (u : Bond). u.other) e), inr (inl refl), inl (ap (λ (p : Point). tie p t.other) same))
joins_meet points (t ∷ ts) known a own y (inr (inl e)) =
    let same : t.other ≡ a = codes_tell points t.other a (known t.other (inr (inl refl))) own (ap (λ (u : Bond). u.other) e) in
    (t.one, sym (ap (λ (u : Bond). u.one) e), inl refl, inr (inl (ap (λ (p : Point). tie t.one p) same)))
joins_meet points (t ∷ ts) known a own y (inr (inr j)) =
    let (c, is, tied, meet) = joins_meet points ts (λ p i. known p (inr (inr i))) a own y j in (c, is, inr (inr tied), inr (inr meet))

pub leads_path : (points : List Point) (ts : List Tie) → AreNumbered points ts → (a : Point) → IsTied ts a → (x y : ℕ) → x ≡ code points a
    → Leads (map (bond_of points) ts) x y → (c : Point) × (y ≡ code points c) × IsTied ts c × Path ts a c
leads_path points ts known a tied x y e (stays _) = (a, e, tied, here a)
leads_path points ts known a tied x y e (goes _ z _ j l) =
    let (c, is, tied_c, meet) = joins_meet points ts known a (known a tied) z (subst (λ (n : ℕ). Joins (map (bond_of points) ts) n z) e j) in
    let (d, ends, tied_d, path) = leads_path points ts known c tied_c z y is l in
    (d, ends, tied_d, along a c d meet path)
