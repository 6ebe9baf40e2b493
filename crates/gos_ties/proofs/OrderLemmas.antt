-- Joints that are found at points stand in the order of the points; and joints that rise are told by which they are.
--
-- Read first: RightLemmas.
use Rattle.std.specs.Prelude.{◌≡◌, ℕ, suc, ◌≤◌, List, [], ◌∷◌, ◌++◌, nat_eq, if◌then◌else◌}
use Rattle.std.proofs.Common.{refl, ap, sym, ◌∙◌, subst, arith, inl, inr}
use Rattle.gos_plan.specs.Plans.{End, Joint, Plan}
use Rattle.gos_ties.specs.declared.points.Point.{Point}
use Rattle.gos_ties.specs.declared.points.Tie.{Tie}
use Rattle.gos_ties.specs.Ties.{at, joint, Has, end_at}
use Rattle.gos_ties.specs.inner.Found.{found, all_found}
use Rattle.gos_ties.specs.Counted.{once, IsThin}
use Rattle.gos_ties.specs.Order.{points_of, position_in, Rise, AreInOrder}
use Rattle.gos_ties.proofs.JointLemmas.{end_tells, at_end, from_ends}
use Rattle.gos_ties.proofs.ThinLemmas.{occurs, once_itself}
use Rattle.gos_ties.proofs.RightLemmas.{at_points, all_at_points, points_occur, from_cases}

rise_sooner : (position : Joint → ℕ) (m n : ℕ) (js : List Joint) → m ≤ n → Rise position n js → Rise position m js
rise_sooner position m n [] low h = tt
rise_sooner position m n (j ∷ js) low (here, rest) = (omega (arith, low, here), rest)

-- what a point is not stands one further, where that point comes before all
further : (q : Point) (qs : List Point) (a : Point) → once a q ≡ 0 → position_in (q ∷ qs) a ≡ suc (position_in qs a)
further q qs a none = ap (λ (n : ℕ). if nat_eq n 0 then suc (position_in qs a) else 0) none

foremost : (q : Point) (qs : List Point) (a : Point) → once a q ≡ 1 → position_in (q ∷ qs) a ≡ 0
foremost q qs a one = ap (λ (n : ℕ). if nat_eq n 0 then suc (position_in qs a) else 0) one

rise_further : (q : Point) (qs : List Point) (n : ℕ) (js : List Joint) → ((j : Joint) → Has js j → once (at j.asking) q ≡ 0)
    → Rise (λ j. position_in qs (at j.asking)) n js → Rise (λ j. position_in (q ∷ qs) (at j.asking)) (suc n) js
rise_further q qs n [] apart h = tt
rise_further q qs n (j ∷ js) apart (here, rest) =
    let next : position_in (q ∷ qs) (at j.asking) ≡ suc (position_in qs (at j.asking)) = further q qs (at j.asking) (apart j (inl refl)) in (
      omega (arith, next, here),
      subst (λ (k : ℕ). Rise (λ i. position_in (q ∷ qs) (at i.asking)) (suc k) js) (sym next)
          (rise_further q qs (suc (position_in qs (at j.asking))) js (λ k i. apart k (inr i)) rest),
    )

module _ (p : Plan) (far : Point → Point) where
  -- the joint that is found at a point asks there
  asks_here : (q : Point) (a b : End) → found p far q ≡ joint a b ∷ [] → once (at a) q ≡ 1
  asks_here q a b is =
      let stands : Has (found p far q) (joint a b) = subst (λ (js : List Joint). Has js (joint a b)) (sym is) (inl refl) in
      let here : q ≡ at a = end_tells q a (from_ends p (end_at q) (end_at (far q)) a b stands).0 in
      subst (λ (x : Point). once (at a) x ≡ 1) (sym here) (once_itself (at a))

  found_occurs : (qs : List Point) (j : Joint) → Has (at_points p far qs) j → 1 ≤ occurs (at j.asking) qs
  found_occurs [] j h = absurd h
  found_occurs (q ∷ qs) j h =
      elim (from_cases p (end_at q) (end_at (far q))) [
        | inl none ↦
            (let rest = found_occurs qs j (subst (λ (js : List Joint). Has (js ++ at_points p far qs) j) none h) in omega (arith, rest))
        | inr one ↦ (let (a, b, is) = one in
            elim (subst (λ (js : List Joint). Has (js ++ at_points p far qs) j) is h) [
              | inl e ↦ (let here = asks_here q a b is in subst (λ (k : Joint). 1 ≤ occurs (at k.asking) (q ∷ qs)) e (omega (arith, here)))
              | inr i ↦ (let rest = found_occurs qs j i in omega (arith, rest))
            ])
      ]

  -- one point more before those in whose order joints were found
  one_more : (q : Point) (qs : List Point) → ((a : End) → occurs (at a) (q ∷ qs) ≤ 1)
      → Rise (λ j. position_in qs (at j.asking)) 0 (at_points p far qs) → Rise (λ j. position_in (q ∷ qs) (at j.asking)) 0 (at_points p far (q ∷ qs))
  one_more q qs few so_far =
      elim (from_cases p (end_at q) (end_at (far q))) [
        | inl none ↦
            subst (λ (js : List Joint). Rise (λ j. position_in (q ∷ qs) (at j.asking)) 0 (js ++ at_points p far qs)) (sym none)
            (rise_sooner (λ j. position_in (q ∷ qs) (at j.asking)) 0 1 (at_points p far qs) (omega arith) rest)
        | inr one ↦ (let (a, b, is) = one in
            let here : position_in (q ∷ qs) (at a) ≡ 0 = foremost q qs (at a) (asks_here q a b is) in
            subst (λ (js : List Joint). Rise (λ j. position_in (q ∷ qs) (at j.asking)) 0 (js ++ at_points p far qs)) (sym is)
            (omega arith, subst (λ (k : ℕ). Rise (λ j. position_in (q ∷ qs) (at j.asking)) (suc k) (at_points p far qs)) (sym here) rest))
      ]
    where
      apart : (j : Joint) → Has (at_points p far qs) j → once (at j.asking) q ≡ 0
      apart j i = let some = found_occurs qs j i in let all = few j.asking in omega (arith, some, all)

      rest : Rise (λ j. position_in (q ∷ qs) (at j.asking)) 1 (at_points p far qs)
      rest = rise_further q qs 0 (at_points p far qs) apart so_far

  points_order : (qs : List Point) → ((a : End) → occurs (at a) qs ≤ 1) → Rise (λ j. position_in qs (at j.asking)) 0 (at_points p far qs)
  points_order [] few = tt
  points_order (q ∷ qs) few = one_more q qs few (points_order qs (λ a. let all = few a in omega (arith, all)))

-- the joints that are found at the points of ties are in order
pub in_order : (p : Plan) (far : Point → Point) (ts : List Tie) (js : List Joint) → IsThin ts → js ≡ all_found p far ts → AreInOrder ts js
in_order p far ts js thin is =
    subst (λ (ks : List Joint). AreInOrder ts ks) (sym (is ∙ all_at_points p far ts))
    (points_order p far (points_of ts)
    (λ a. let all = points_occur (at a) ts in let few = thin.ends (at a) a (at_end a) in omega (arith, all, few)))

-- joints that rise are told by which they are
behind : (position : Joint → ℕ) (n : ℕ) (js : List Joint) → Rise position n js → (j : Joint) → Has js j → n ≤ position j
behind position n [] rise j h = absurd h
behind position n (k ∷ js) (here, rest) j (inl e) = subst (λ (x : Joint). n ≤ position x) e here
behind position n (k ∷ js) (here, rest) j (inr h) =
    let there = behind position (suc (position k)) js rest j h in omega (arith, here, there)

-- the first of joints is not among those behind it
gone : (position : Joint → ℕ) (x y : Joint) (xs : List Joint) → Rise position (suc (position x)) xs → x ≡ y → Has xs y → ⊥
gone position x y xs rise e h =
    let there = behind position (suc (position x)) xs rise y h in let same : position x ≡ position y = ap position e in omega (arith, there, same)

one_first : (position : Joint → ℕ) (j k : Joint) (js ks : List Joint) → Rise position (suc (position j)) js → Rise position (suc (position k)) ks
    → Has (k ∷ ks) j → Has (j ∷ js) k → j ≡ k
one_first position j k js ks rise other (inl e) back = sym e
one_first position j k js ks rise other (inr later) (inl e) = e
one_first position j k js ks rise other (inr later) (inr also) =
    let one = behind position (suc (position k)) ks other j later in
    let two = behind position (suc (position j)) js rise k also in
    absurd (omega (arith, one, two))

pub one_order : (position : Joint → ℕ) (m n : ℕ) (js ks : List Joint) → Rise position m js → Rise position n ks
    → ((j : Joint) → Has js j → Has ks j) → ((j : Joint) → Has ks j → Has js j) → js ≡ ks
one_order position m n [] [] rise other forth back = refl
one_order position m n [] (k ∷ ks) rise other forth back = absurd (back k (inl refl))
one_order position m n (j ∷ js) [] rise other forth back = absurd (forth j (inl refl))
one_order position m n (j ∷ js) (k ∷ ks) (low, rise) (least, other) forth back =
    let same : j ≡ k = one_first position j k js ks rise other (forth j (inl refl)) (back k (inl refl)) in
    let rest : js ≡ ks =
    one_order position (suc (position j)) (suc (position k)) js ks rise other
    (λ x h. elim (forth x (inr h)) [ inl e ↦ absurd (gone position j x js rise (same ∙ e) h) | inr i ↦ i ])
    (λ x h. elim (back x (inr h)) [ inl e ↦ absurd (gone position k x ks other (sym same ∙ e) h) | inr i ↦ i ])
    in
    λ i. same i ∷ rest i
