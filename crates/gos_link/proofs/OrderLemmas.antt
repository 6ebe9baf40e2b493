-- The joints that ties make of linked plans stand in the order of their asking ends in the joints of these plans.
--
-- Read first: PointLemmas, JoinedLemmas. The points of the ties are those of the plans' ends, one each. An end of the whole is in no
-- link, so that no other place lies at its point.
use Rattle.std.specs.Prelude.{◌≡◌, ℕ, zero, suc, ◌+◌, ◌&&◌, Bool, true, false, List, [], ◌∷◌, ◌++◌, length, Option, Some, slice_get, nat_eq, if◌then◌else◌}
use Rattle.std.proofs.Common.{refl, sym, ◌∙◌, ap, subst, arith, inl, inr}
use Rattle.std.proofs.lemmas.Bool.{eq-eqb}
use Rattle.std.proofs.lemmas.Bool.Decides.{nat_tests}
use Rattle.gos_plan.specs.Kinds.{asks, serves}
use Rattle.gos_plan.specs.Plans.{Joint, Plan, same_end, IsRight}
use Rattle.gos_plan.specs.Joining.{Place, place, origin, Linked}
use Rattle.gos_plan.proofs.JointLemmas.{same_itself, same_is}
use Rattle.gos_ties.specs.declared.points.Point.{Point}
use Rattle.gos_ties.specs.declared.points.Tie.{Tie}
use Rattle.gos_ties.specs.Ties.{at}
use Rattle.gos_ties.specs.Counted.{once}
use Rattle.gos_ties.specs.Order as tied
use Rattle.gos_ties.specs.Order.{Rise, points_of}
use Rattle.gos_ties.proofs.ThinLemmas.{once_itself}
use Rattle.gos_link.specs.declared.services.Service.{Service}
use Rattle.gos_link.specs.Linked.{wiring_of}
use Rattle.gos_link.specs.Order.{ends_in, ends_from, same_place, position_in, AreInOrder}
use Rattle.gos_link.specs.inner.Wired.{rank, parts_before, stays_before, ties_in, ties_from, AllRight, AreJoinable}
use Rattle.gos_link.proofs.ServiceLemmas.{In}
use Rattle.gos_link.proofs.PointLemmas.{contact_in, IsThere, spot_of, one_point}
use Rattle.gos_link.proofs.PathLemmas.{right_fits}
use Rattle.gos_link.proofs.CountLemmas.{once_cases}
use Rattle.gos_link.proofs.JoinedLemmas.{Bears, there_at}

-- places that are told to be one are one
place_is : (a b : Place) → same_place a b ≡ true → a ≡ b
place_is a b t = λ i. place (plan i) (end i)
  where
    both : (x y : Bool) → (x && y) ≡ true → (x ≡ true) × (y ≡ true)
    both true true e = (refl, refl)
    both true false e = absurd (cc e)
    both false y e = absurd (cc e)

    plan : a.plan ≡ b.plan
    plan = let one : nat_eq a.plan b.plan ≡ true = (both (nat_eq a.plan b.plan) (same_end a.end b.end) t).0 in grind (arith, nat_tests, one)

    end : a.end ≡ b.end
    end = same_is a.end b.end (both (nat_eq a.plan b.plan) (same_end a.end b.end) t).1

place_itself : (a : Place) → same_place a a ≡ true
place_itself a = rw (eq-eqb a.plan a.plan refl) (same_itself a.end)

-- joints of equal positions rise alike
rise_same : (f g : Joint → ℕ) (n : ℕ) (js : List Joint) → ((j : Joint) → In js j → f j ≡ g j) → Rise f n js → Rise g n js
rise_same f g n [] same rise = tt
rise_same f g n (j ∷ js) same (low, rest) =
    let here : f j ≡ g j = same j (inl refl) in (
      omega (arith, low, here),
      subst (λ (k : ℕ). Rise g (suc k) js) here (rise_same f g (suc (f j)) js (λ k i. same k (inr i)) rest),
    )

points-append : (ts us : List Tie) → points_of (ts ++ us) ≡ points_of ts ++ points_of us
points-append [] us = refl
points-append (t ∷ ts) us = ap (λ (qs : List Point). t.one ∷ t.other ∷ qs) (points-append ts us)

-- how many parts, and how many imports that stay, a plan more has
no_parts : (ps : List Plan) → parts_before ps 0 ≡ 0
no_parts [] = refl
no_parts (p ∷ ps) = refl

no_stays : (ss : List Service) (m : ℕ) (ps : List Plan) → stays_before ss m ps 0 ≡ 0
no_stays ss m [] = refl
no_stays ss m (p ∷ ps) = refl

parts_next : (ps : List Plan) (k : ℕ) (p : Plan) → slice_get ps k ≡ Some p → parts_before ps (suc k) ≡ parts_before ps k + length p.parts
parts_next [] k p e = absurd (cc e)
parts_next (q ∷ ps) zero p e =
    let same : q ≡ p = cc e in
    let size : length q.parts ≡ length p.parts = ap (λ (r : Plan). length r.parts) same in
    let none = no_parts ps in
    omega (arith, size, none)
parts_next (q ∷ ps) (suc k) p e = let rest = parts_next ps k p e in omega (arith, rest)

stays_next : (ss : List Service) (m : ℕ) (ps : List Plan) (k : ℕ) (p : Plan) → slice_get ps k ≡ Some p
    → stays_before ss m ps (suc k) ≡ stays_before ss m ps k + rank ss (m + k) (length p.imports)
stays_next ss m [] k p e = absurd (cc e)
stays_next ss m (q ∷ ps) zero p e =
    let same : q ≡ p = cc e in
    let first : m ≡ m + 0 = omega arith in
    let size : rank ss m (length q.imports) ≡ rank ss (m + 0) (length p.imports) = (λ i. rank ss (first i) (length (same i).imports)) in
    let none = no_stays ss (m + 1) ps in
    omega (arith, size, none)
stays_next ss m (q ∷ ps) (suc k) p e =
    let next : (m + 1) + k ≡ m + suc k = omega arith in
    let same : rank ss ((m + 1) + k) (length p.imports) ≡ rank ss (m + suc k) (length p.imports) = ap (λ (n : ℕ). rank ss n (length p.imports)) next in
    let rest = stays_next ss (m + 1) ps k p e in
    omega (arith, rest, same)

module _ (ps : List Plan) (ss : List Service) (root : ℕ) (known : AreJoinable ps ss root) (right : AllRight ps) where
  -- these points are those of these places, at which there are handshakes
  abbrev Lie : List Point → List Place → Type 0
  Lie [] [] = Unit {0}
  Lie [] (x ∷ xs) = ⊥
  Lie (q ∷ qs) [] = ⊥
  Lie (q ∷ qs) (x ∷ xs) = (spot_of ps ss root x ≡ q) × IsThere ps x × Lie qs xs

  lie-append : (qs rs : List Point) (xs ys : List Place) → Lie qs xs → Lie rs ys → Lie (qs ++ rs) (xs ++ ys)
  lie-append [] rs [] ys h k = k
  lie-append [] rs (x ∷ xs) ys h k = absurd h
  lie-append (q ∷ qs) rs [] ys h k = absurd h
  lie-append (q ∷ qs) rs (x ∷ xs) ys (here, there, h) k = (here, there, lie-append qs rs xs ys h k)

  lie_in : (k : ℕ) (p : Plan) → slice_get ps k ≡ Some p → (js : List Joint) → ((j : Joint) → In js j → In p.joints j)
      → Lie (points_of (ties_in ss root k (parts_before ps k) (stays_before ss 0 ps k) js)) (ends_in k js)
  lie_in k p is [] all = tt
  lie_in k p is (j ∷ js) all =
      let (q, v, one, other) = right_fits p [] p.joints j (right k p is) (all j (inl refl)) in
      let rest = lie_in k p is js (λ i h. all i (inr h)) in (
        refl,
        (asks q v, ap (λ (o : Option Plan). contact_in o j.asking) is ∙ one),
        (refl, (serves q v, ap (λ (o : Option Plan). contact_in o j.serving) is ∙ other), rest),
      )

  lie_here : (k P I : ℕ) (p : Plan) → slice_get ps k ≡ Some p → P ≡ parts_before ps k → I ≡ stays_before ss 0 ps k
      → Lie (points_of (ties_in ss root k P I p.joints)) (ends_in k p.joints)
  lie_here k P I p is parts imports =
      subst (λ (n : ℕ). Lie (points_of (ties_in ss root k n I p.joints)) (ends_in k p.joints)) (sym parts)
      (subst (λ (n : ℕ). Lie (points_of (ties_in ss root k (parts_before ps k) n p.joints)) (ends_in k p.joints)) (sym imports)
      (lie_in k p is p.joints (λ j h. h)))

  more_parts : (k P : ℕ) (p : Plan) → slice_get ps k ≡ Some p → P ≡ parts_before ps k → P + length p.parts ≡ parts_before ps (k + 1)
  more_parts k P p is parts =
      let next : k + 1 ≡ suc k = omega arith in
      let one = parts_next ps k p is in
      let all : parts_before ps (k + 1) ≡ parts_before ps (suc k) = ap (parts_before ps) next in
      omega (arith, one, all, parts)

  more_stays : (k I : ℕ) (p : Plan) → slice_get ps k ≡ Some p → I ≡ stays_before ss 0 ps k
      → I + rank ss k (length p.imports) ≡ stays_before ss 0 ps (k + 1)
  more_stays k I p is imports =
      let next : k + 1 ≡ suc k = omega arith in
      let none : 0 + k ≡ k = omega arith in
      let one = stays_next ss 0 ps k p is in
      let same : rank ss (0 + k) (length p.imports) ≡ rank ss k (length p.imports) = ap (λ (n : ℕ). rank ss n (length p.imports)) none in
      let all : stays_before ss 0 ps (k + 1) ≡ stays_before ss 0 ps (suc k) = ap (stays_before ss 0 ps) next in
      omega (arith, one, same, all, imports)

  lie_from : (k P I : ℕ) (qs : List Plan) → P ≡ parts_before ps k → I ≡ stays_before ss 0 ps k
      → ((n : ℕ) (p : Plan) → slice_get qs n ≡ Some p → slice_get ps (k + n) ≡ Some p) → Lie (points_of (ties_from ss root k P I qs)) (ends_from k qs)
  lie_from k P I [] parts imports among = tt
  lie_from k P I (p ∷ qs) parts imports among =
      let first : k ≡ k + 0 = omega arith in
      let is : slice_get ps k ≡ Some p = ap (slice_get ps) first ∙ among 0 p refl in
      let rest =
      lie_from (k + 1) (P + length p.parts) (I + rank ss k (length p.imports)) qs (more_parts k P p is parts) (more_stays k I p is imports)
      (λ n q e. let further : (k + 1) + n ≡ k + suc n = omega arith in ap (slice_get ps) further ∙ among (suc n) q e)
      in
      subst (λ (rs : List Point). Lie rs (ends_from k (p ∷ qs)))
      (sym (points-append (ties_in ss root k P I p.joints) (ties_from ss root (k + 1) (P + length p.parts) (I + rank ss k (length p.imports)) qs)))
      (lie-append (points_of (ties_in ss root k P I p.joints))
      (points_of (ties_from ss root (k + 1) (P + length p.parts) (I + rank ss k (length p.imports)) qs)) (ends_in k p.joints) (ends_from (k + 1) qs)
      (lie_here k P I p is parts imports) rest)

  lie_all : Lie (points_of (ties_from ss root 0 0 0 ps)) (ends_from 0 ps)
  lie_all =
      lie_from 0 0 0 ps (sym (no_parts ps)) (sym (no_stays ss 0 ps))
      (λ n p e. let same : 0 + n ≡ n = omega arith in ap (slice_get ps) same ∙ e)

  -- a place in no link stands among places where its point does among theirs; with one more before them, and of all
  one_further : (a : Place) (q r : Point) (rs : List Point) (x : Place) (xs : List Place) → IsThere ps a → spot_of ps ss root a ≡ q
      → ((y : Place) → Linked (wiring_of ps ss root) a y → ⊥) → spot_of ps ss root x ≡ r → IsThere ps x
      → tied.position_in rs q ≡ position_in xs a → tied.position_in (r ∷ rs) q ≡ position_in (x ∷ xs) a
  one_further a q r rs x xs there spot apart here there_x rest = by (same_place a x) refl
    where
      by_point : (n : ℕ) → once q r ≡ n → tied.position_in (r ∷ rs) q ≡ (if nat_eq n 0 then suc (tied.position_in rs q) else 0)
      by_point n e = ap (λ (m : ℕ). if nat_eq m 0 then suc (tied.position_in rs q) else 0) e

      by_place : (b : Bool) → same_place a x ≡ b → position_in (x ∷ xs) a ≡ (if b then 0 else suc (position_in xs a))
      by_place b e = ap (λ (c : Bool). if c then 0 else suc (position_in xs a)) e

      by : (b : Bool) → same_place a x ≡ b → tied.position_in (r ∷ rs) q ≡ position_in (x ∷ xs) a
      by true same =
          let at_point : r ≡ q = sym here ∙ (ap (spot_of ps ss root) (sym (place_is a x same)) ∙ spot) in
          let one : once q r ≡ 1 = subst (λ (p : Point). once q p ≡ 1) (sym at_point) (once_itself q) in
          by_point 1 one ∙ sym (by_place true same)
      by false same =
          elim (once_cases q r) [
            | inl none ↦ by_point 0 none ∙ (ap suc rest ∙ sym (by_place false same))
            | inr (at_point, few) ↦
                elim (one_point ps ss root known a x there there_x (spot ∙ (at_point ∙ sym here))) [
                  | inl e ↦
                      (let wrong : true ≡ false = sym (place_itself a) ∙ (ap (same_place a) e ∙ same) in absurd (cc wrong))
                  | inr linked ↦ absurd (apart x linked)
                ]
          ]

  same_position : (a : Place) (q : Point) (qs : List Point) (xs : List Place) → IsThere ps a → spot_of ps ss root a ≡ q
      → ((y : Place) → Linked (wiring_of ps ss root) a y → ⊥) → Lie qs xs → tied.position_in qs q ≡ position_in xs a
  same_position a q [] [] there spot apart lie = refl
  same_position a q [] (x ∷ xs) there spot apart lie = absurd lie
  same_position a q (r ∷ rs) [] there spot apart lie = absurd lie
  same_position a q (r ∷ rs) (x ∷ xs) there spot apart (here, there_x, lie) =
      one_further a q r rs x xs there spot apart here there_x (same_position a q rs xs there spot apart lie)

  pub in_order : (r : Plan) → Bears ps ss root known right r → IsRight r → tied.AreInOrder (ties_from ss root 0 0 0 ps) r.joints
      → AreInOrder (wiring_of ps ss root) r.joints
  in_order r bears good rise =
      rise_same (λ j. tied.position_in (points_of (ties_from ss root 0 0 0 ps)) (at j.asking))
      (λ j. position_in (ends_from 0 ps) (origin (wiring_of ps ss root) j.asking)) 0 r.joints
      (λ j h.
      let (q, v, one, other) = right_fits r [] r.joints j good h in
      let stands = there_at ps ss root known right r bears j.asking (asks q v) one in
      same_position (origin (wiring_of ps ss root) j.asking) (at j.asking) (points_of (ties_from ss root 0 0 0 ps)) (ends_from 0 ps)
      (asks q v, stands.contact) stands.spot stands.apart lie_all) rise
