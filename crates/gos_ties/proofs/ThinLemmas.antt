-- A number is in bonds as often as its point is in ties.
use Rattle.std.specs.Prelude.{◌≡◌, ℕ, ◌+◌, ◌≤◌, ◌⊎◌, List, [], ◌∷◌, map, nat_eq, if◌then◌else◌, Some}
use Rattle.std.proofs.Common.{refl, sym, subst, arith, inl, inr}
use Rattle.std.proofs.lemmas.Bool.{eq-eqb}
use Rattle.gos_model.proofs.NumberLemmas.{number_cases}
use Rattle.gos_plan.specs.Plans.{End}
use Rattle.gos_ties.specs.declared.points.Place.{Place}
use Rattle.gos_ties.specs.declared.points.Place.TheVariants as places
use Rattle.gos_ties.specs.declared.points.Point.{Point}
use Rattle.gos_ties.specs.declared.points.Tie.{Tie}
use Rattle.gos_ties.specs.Ties.{end_at}
use Rattle.gos_ties.specs.Counted.{place_once, once, meetings, IsThin}
use Rattle.gos_ties.specs.inner.Joined.{touches}
use Rattle.gos_ties.specs.inner.Found.{code, bond_of, IsTied, IsNumbered, AreNumbered}
use Rattle.gos_ties.proofs.CodeLemmas.{codes_tell}

-- how often a point is in a list
abbrev pub occurs : Point → List Point → ℕ
occurs q [] = 0
occurs q (p ∷ ps) = once q p + occurs q ps

pub place_once_itself : (p : Place) → place_once p p ≡ 1
place_once_itself (places.Part k) = rw (eq-eqb k k refl) refl
place_once_itself (places.Import k) = rw (eq-eqb k k refl) refl
place_once_itself places.Result = refl
place_once_itself (places.Number k) = rw (eq-eqb k k refl) refl
place_once_itself (places.Node k) = rw (eq-eqb k k refl) refl

pub once_itself : (q : Point) → once q q ≡ 1
once_itself q = rw (eq-eqb q.shake q.shake refl) (place_once_itself q.place)

bond_once : (points : List Point) (q p : Point) → IsNumbered points q → IsNumbered points p
    → (if nat_eq (code points p) (code points q) then 1 else 0) ≤ once q p
bond_once points q p own other =
    number_cases (code points p) (code points q)
    (λ e t. let same : p ≡ q = codes_tell points p q other own e in
    let one : once q p ≡ 1 = subst (λ (r : Point). once q r ≡ 1) (sym same) (once_itself q) in
    rw t (omega (arith, one)))
    (λ e t. rw t (omega arith))

bonds_once : (points : List Point) (ts : List Tie) (q : Point) → AreNumbered points ts → IsNumbered points q
    → touches (code points q) (map (bond_of points) ts) ≤ meetings q ts
bonds_once points [] q known own = omega arith
bonds_once points (t ∷ ts) q known own =
    let one = bond_once points q t.one own (known t.one (inl refl)) in
    let other = bond_once points q t.other own (known t.other (inr (inl refl))) in
    let rest = bonds_once points ts q (λ p i. known p (inr (inr i))) own in
    omega (arith, one, other, rest)

-- a number that is in bonds is a point's
point_of : (points : List Point) (ts : List Tie) (x : ℕ) → touches x (map (bond_of points) ts) ≡ 0 ⊎ ((q : Point) × IsTied ts q × (x ≡ code points q))
point_of points [] x = inl refl
point_of points (t ∷ ts) x =
    number_cases (code points t.one) x (λ e u. inr (t.one, inl refl, sym e))
    (λ e u. number_cases (code points t.other) x (λ f v. inr (t.other, inr (inl refl), sym f))
    (λ f v. elim (point_of points ts x) [
      | inl none ↦ inl (rw (u, v) (omega (arith, none)))
      | inr found ↦ (let (q, tied, is) = found in inr (q, inr (inr tied), is))
    ]))

pub few_bonds : (points : List Point) (ts : List Tie) → IsThin ts → AreNumbered points ts → (x : ℕ) → touches x (map (bond_of points) ts) ≤ 2
few_bonds points ts few known x =
    elim (point_of points ts x) [
      | inl none ↦ omega (arith, none)
      | inr found ↦
          (let (q, tied, is) = found in
          let all = bonds_once points ts q known (known q tied) in
          let two = few.points q in
          let there : touches (code points q) (map (bond_of points) ts) ≤ 2 = omega (arith, all, two) in
          subst (λ (n : ℕ). touches n (map (bond_of points) ts) ≤ 2) (sym is) there)
    ]

pub free_bonds : (points : List Point) (ts : List Tie) → IsThin ts → AreNumbered points ts → (q : Point) (e : End) → IsTied ts q → end_at q ≡ Some e
    → touches (code points q) (map (bond_of points) ts) ≤ 1
free_bonds points ts few known q e tied is =
    let all = bonds_once points ts q known (known q tied) in let one = few.ends q e is in omega (arith, all, one)
