-- A point that is added has a number, and those that had one keep it.
use Rattle.std.specs.Prelude.{◌≡◌, ◌↔◌, ◌⊎◌, ◌≤◌, suc, ◌+◌, Bool, true, false, not, List, [], ◌∷◌, ◌++◌, length, map, Some, None, find, position}
use Rattle.std.specs.List.{list_any}
use Rattle.std.proofs.Common.{refl, ap, sym, ◌∙◌, subst, arith, inl, inr, rules, cond}
use Rattle.std.proofs.lemmas.List.Folds.{find_at}
use Rattle.std.proofs.lemmas.Grind.{common_steps}
use Rattle.std.proofs.lemmas.Option.{slice_get_within}
use Rattle.indexmap.specs.IndexSet.{insert_key}
use Rattle.gos_ties.specs.declared.points.Point.{Point}
use Rattle.gos_ties.specs.declared.points.Tie.{Tie}
use Rattle.gos_ties.specs.contracts.points.PointPartialEq.TheImpl.{eq-value}
use Rattle.gos_ties.specs.inner.Joined.{AreBelow}
use Rattle.gos_ties.specs.inner.Found.{code, bond_of, IsTied, IsNumbered, AreNumbered}

-- points that are told to be one are one
same_point : (p q : Point) → (eq-value.it p q ≡ true) ↔ (p ≡ q)
same_point p q = search rules

-- a point has its number where it is found
found : (points : List Point) (p : Point) → find (eq-value.it p) points ≡ Some p → IsNumbered points p
found points p e = sym (find_at (eq-value.it p) points) ∙ e

finds : (points : List Point) (p : Point) → IsNumbered points p → find (eq-value.it p) points ≡ Some p
finds points p e = find_at (eq-value.it p) points ∙ e

find_front : (points more : List Point) (p q : Point) → find (eq-value.it p) points ≡ Some q → find (eq-value.it p) (points ++ more) ≡ Some q
find_front [] more p q e = absurd (cc e)
find_front (x ∷ points) more p q e = by (eq-value.it p x) (find_front points more p q) e
  where
    by : (b : Bool) → (find (eq-value.it p) points ≡ Some q → find (eq-value.it p) (points ++ more) ≡ Some q) → cond b (Some x) (find (eq-value.it p) points) ≡ Some q
        → cond b (Some x) (find (eq-value.it p) (points ++ more)) ≡ Some q
    by true rest e = e
    by false rest e = rest e

find_any : (points : List Point) (p : Point) → list_any (eq-value.it p) points ≡ true → find (eq-value.it p) points ≡ Some p
find_any [] p e = absurd (cc e)
find_any (x ∷ points) p e = by (eq-value.it p x) refl (find_any points p) e
  where
    by : (b : Bool) → eq-value.it p x ≡ b → (list_any (eq-value.it p) points ≡ true → find (eq-value.it p) points ≡ Some p)
        → list_any (eq-value.it p) (x ∷ points) ≡ true → find (eq-value.it p) (x ∷ points) ≡ Some p
    by true is rest h = rw is (ap Some (sym ((same_point p x).0 is)))
    by false is rest h = rw is (rest (rw is at h))

find_none : (points : List Point) (p : Point) → list_any (eq-value.it p) points ≡ false → find (eq-value.it p) (points ++ p ∷ []) ≡ Some p
find_none [] p e = let same : eq-value.it p p ≡ true = (same_point p p).1 refl in rw same refl
find_none (x ∷ points) p e = by (eq-value.it p x) refl (find_none points p) e
  where
    by : (b : Bool) → eq-value.it p x ≡ b → (list_any (eq-value.it p) points ≡ false → find (eq-value.it p) (points ++ p ∷ []) ≡ Some p)
        → list_any (eq-value.it p) (x ∷ points) ≡ false → find (eq-value.it p) ((x ∷ points) ++ p ∷ []) ≡ Some p
    by true is rest h = let wrong : true ≡ false = rw is at h in absurd (cc wrong)
    by false is rest h = rw is (rest (rw is at h))

pub has_number : (points new : List Point) (p : Point) → new ≡ insert_key eq-value.it points p → IsNumbered new p
has_number points new p is = subst (λ (ps : List Point). IsNumbered ps p) (sym is) (found (insert_key eq-value.it points p) p (by (list_any (eq-value.it p) points) refl))
  where
    by : (b : Bool) → list_any (eq-value.it p) points ≡ b → find (eq-value.it p) (insert_key eq-value.it points p) ≡ Some p
    by true e = rw e (find_any points p e)
    by false e = rw e (find_none points p e)

pub keeps_number : (points new : List Point) (p q : Point) → new ≡ insert_key eq-value.it points p → IsNumbered points q → IsNumbered new q
keeps_number points new p q is old =
    subst (λ (ps : List Point). IsNumbered ps q) (sym is) (found (insert_key eq-value.it points p) q (by (list_any (eq-value.it p) points) refl))
  where
    by : (b : Bool) → list_any (eq-value.it p) points ≡ b → find (eq-value.it q) (insert_key eq-value.it points p) ≡ Some q
    by true e = rw e (finds points q old)
    by false e = rw e (find_front points (p ∷ []) q q (finds points q old))

pub bonds_below : (points : List Point) (ts : List Tie) → AreNumbered points ts → AreBelow (length points) (map (bond_of points) ts)
bonds_below points [] known = tt
bonds_below points (t ∷ ts) known = (
  slice_get_within points (code points t.one) t.one (known t.one (inl refl)),
  slice_get_within points (code points t.other) t.other (known t.other (inr (inl refl))),
  bonds_below points ts (λ p i. known p (inr (inr i))),
)

-- each point in ties has a number, or is in those that are left
abbrev pub HaveNumbers : List Point → List Tie → List Tie → Type 0
HaveNumbers points left ts = (p : Point) → IsTied ts p → IsNumbered points p ⊎ IsTied left p

pub one_more : (points new : List Point) (t : Tie) (left ts : List Tie) → HaveNumbers points (t ∷ left) ts
    → ((p : Point) → IsNumbered points p → IsNumbered new p) → IsNumbered new t.one → IsNumbered new t.other → HaveNumbers new left ts
one_more points new t left ts so_far kept one other p i =
    elim (so_far p i) [
      | inl old ↦ inl (kept p old)
      | inr (inl e) ↦ inl (subst (λ (q : Point). IsNumbered new q) (sym e) one)
      | inr (inr (inl e)) ↦ inl (subst (λ (q : Point). IsNumbered new q) (sym e) other)
      | inr (inr (inr later)) ↦ inr later
    ]

-- a point that has no place among others has the number of all
code_low : (points : List Point) (p : Point) → code points p ≤ length points
code_low [] p = omega arith
code_low (x ∷ points) p = by (eq-value.it p x) (code_low points p)
  where
    by : (b : Bool) → code points p ≤ length points → cond (not b) (1 + code points p) 0 ≤ suc (length points)
    by true low = omega arith
    by false low = omega (arith, low)

pub code_none : (points : List Point) (p : Point) → position (eq-value.it p) points ≡ None → code points p ≡ length points
code_none points p e = let low = code_low points p in grind (arith, common_steps)
