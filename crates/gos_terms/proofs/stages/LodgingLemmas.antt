-- All splits of a node: what the ties of Shares and of supplies connect stays within a plan.
use Rattle.std.specs.Prelude.{◌+◌, ◌*◌, ◌<◌, ◌≤◌, Contains}
use Rattle.std.proofs.Common.{◌≡◌, ℕ, zero, suc, Bool, true, false, List, [], ◌∷◌, ◌++◌, Option, Some, inl, inr, refl, sym, ◌∙◌, ap, subst, arith}
use Rattle.std.proofs.lemmas.List.Elements.{Contains-append_cases}
use Rattle.gos_check.specs.declared.linear.Split.{Split}
use Rattle.gos_check.specs.Linearity.{times, split_in, sides}
use Rattle.gos_check.proofs.TimesLemmas.{times_none, times_same, times_other}
use Rattle.gos_plan.specs.Plans.{End, PartEnd, ResultEnd, Joint}
use Rattle.gos_realises.specs.realises.Regular.{count}
use Rattle.gos_ties.specs.declared.points.Place.{Place}
use Rattle.gos_ties.specs.declared.points.Place.TheVariants as places
use Rattle.gos_ties.specs.declared.points.Tie as point_ties
use Rattle.gos_ties.specs.Ties as ties
use Rattle.gos_ties.specs.Ties.{point}
use Rattle.gos_joining.specs.webs.Webs.{Of, Number, Within, Tie, tie, here, along, own_web}
use Rattle.gos_joining.specs.unions.Unions.{within}
use Rattle.gos_joining.proofs.unions.UnionLemmas.{of_image, in_image}
use Rattle.gos_compile.specs.Wiring.{Types, row, led, share_ties, shares_ties}
use Rattle.gos_terms.specs.wired.Wired.{dot_of, dot_ties, Supplies, result_ties, supply_ties, all_supply_ties}
use Rattle.gos_terms.specs.stages.Inside.{inside_supplies}
use Rattle.gos_terms.specs.stages.Lodging.{spot_if, live, first_lodging, seen_from, Lodging, one_lodging, lodging, lodged, Near, AreInOrder, AreApart, AreTidy, LodgedAreInside, HomesAreKept, NumbersAreHeld}
use Rattle.gos_terms.proofs.stages.HomeLemmas.{IsOld}
use Rattle.gos_terms.proofs.stages.StepLemmas.{seen_caller, IsKept, kept_on}
use Rattle.gos_terms.proofs.stages.ShareTieLemmas.{held_on, source_kept, caller_kept}

-- from which side a Share is seen
pub seen_first : (a b : Bool) → a ≡ true → seen_from a b ≡ Some 0
seen_first a b e = ap (λ (x : Bool). seen_from x b) e

pub seen_second : (a b : Bool) → (a ≡ true → b ≡ true → ⊥) → b ≡ true → seen_from a b ≡ Some 1
seen_second true b apart e = absurd (apart refl e)
seen_second false b apart e = ap (seen_from false) e

-- the splits that are left, where these numbers have been split
pub record IsTidy (inner : ℕ → Bool) (ss : List Split) (gone : List ℕ) : Type 0 where
  pub once : (k : ℕ) → times k (sides ss) ≤ 1
  pub split : (k : ℕ) → times k (split_in ss) + times k gone ≤ 1
  pub order : AreInOrder ss
  pub apart : AreApart inner ss

pub tidy_on : (inner : ℕ → Bool) (s : Split) (ss : List Split) (gone : List ℕ) → IsTidy inner (s ∷ ss) gone → IsTidy inner ss (s.of ∷ gone)
tidy_on inner s ss gone t =
    record {
      once = λ k. let all = t.once k in omega (arith, all);
      split = λ k. let all = t.split k in omega (arith, all);
      order = t.order.1;
      apart = t.apart.1;
    }

pub tidy_first : (inner : ℕ → Bool) (ss : List Split) (ns : List ℕ) → AreTidy inner ss ns → IsTidy inner ss []
tidy_first inner ss ns t =
    record { once = t.sides_once; split = λ k. let all = t.split_once k in omega (arith, all); order = t.in_order; apart = t.apart }

pub of_gone : (inner : ℕ → Bool) (s : Split) (ss : List Split) (gone : List ℕ) → IsTidy inner (s ∷ ss) gone → times s.of gone ≡ 0
of_gone inner s ss gone t = let all = t.split s.of in let same = times_same s.of (split_in ss) in omega (arith, all, same)

abbrev pub Held : (ℕ → Bool) → List Split → List ℕ → Lodging → Type 0
Held inner ss gone l =
    (n h : ℕ) → times n (sides ss) ≡ 0 → times n gone ≡ 0 → l.home (Within 0 (Number n h)) ≡ spot_if (live ss inner n) n (ResultEnd h)

-- points of a part that are led to
pub led_listed : (place : Place) (q b n g : ℕ) (u : point_ties.Tie) → Contains (led (row place b n) (places.Part q) g) u
    → (j : ℕ) × (j < n) × (ties.tie (point place (b + j)) (point (places.Part q) (g + j)) ≡ u)
led_listed place q b zero g u (k, lt, e) = absurd (omega (arith, lt))
led_listed place q b (suc n) g u (zero, lt, e) =
    let one : b + 0 ≡ b = omega arith in
    let other : g + 0 ≡ g = omega arith in
    (0, omega arith, (λ i. ties.tie (point place (one i)) (point (places.Part q) (other i))) ∙ e)
led_listed place q b (suc n) g u (suc k, lt, e) =
    let (j, low, is) = led_listed place q (suc b) n (suc g) u (k, omega (arith, lt), e) in
    let one : b + suc j ≡ suc b + j = omega arith in
    let other : g + suc j ≡ suc g + j = omega arith in
    (suc j, omega (arith, low), (λ i. ties.tie (point place (one i)) (point (places.Part q) (other i))) ∙ is)

abbrev pub lifted : point_ties.Tie → Tie
lifted u = tie (Within 0 (dot_of u.one)) (Within 0 (dot_of u.other))

module _ (types : Types) (inner : ℕ → Bool) where
  abbrev pub seen : List Split → Split → Option ℕ
  seen ss s = seen_from (live ss inner s.left) (live ss inner s.right)

  pub final_held : (ss : List Split) (q x : ℕ) (l : Lodging) (gone : List ℕ) → IsTidy inner ss gone → Held inner ss gone l → (n h : ℕ)
      → times n (split_in ss) ≡ 0 → times n gone ≡ 0
      → (lodging types q x inner ss l).home (Within 0 (Number n h)) ≡ spot_if (inner n) n (ResultEnd h)
  final_held [] q x l gone tidy held n h none away = held n h refl away
  final_held (s ∷ ss) q x l gone tidy held n h none away =
      let (far, rest) = times_none n s.of (split_in ss) none in
      final_held ss (suc q) (suc x) (one_lodging types q x s (seen ss s) l) (s.of ∷ gone) (tidy_on inner s ss gone tidy)
      (held_on types s ss tidy.once inner tidy.apart.0 q x l gone held) n h rest (times_other n s.of gone (λ e. far (sym e)) ∙ away)

  final_near : (ss : List Split) (q x : ℕ) (l : Lodging) (gone : List ℕ) → IsTidy inner ss gone → (t : Tie) → IsKept q ss l t
      → Near (lodging types q x inner ss l).env ((lodging types q x inner ss l).home t.one) ((lodging types q x inner ss l).home t.other)
  final_near [] q x l gone tidy t kept = kept.near
  final_near (s ∷ ss) q x l gone tidy t kept =
      final_near ss (suc q) (suc x) (one_lodging types q x s (seen ss s) l) (s.of ∷ gone) (tidy_on inner s ss gone tidy) t
      (kept_on types s ss tidy.once q x (seen ss s) l t (seen_caller (live ss inner s.left) (live ss inner s.right)) kept)

  -- the ties of one Share
  own_kept : (s : Split) (ss : List Split) (q x : ℕ) (l : Lodging) (gone : List ℕ) → IsTidy inner (s ∷ ss) gone → Held inner (s ∷ ss) gone l
      → (u : point_ties.Tie) → Contains (share_ties q (count (types s.of)) s) u → IsKept (suc q) ss (one_lodging types q x s (seen ss s) l) (lifted u)
  own_kept s ss q x l gone tidy held u has =
      elim (Contains-append_cases source (left ++ right) u has) [
        | inl first ↦ at_source (led_listed (places.Number s.of) q 0 size 0 u first)
        | inr more ↦
            elim (Contains-append_cases left right u more) [
              | inl second ↦ at_left (led_listed (places.Number s.left) q 0 size size u second)
              | inr third ↦ at_right (led_listed (places.Number s.right) q 0 size (size + size) u third)
            ]
      ]
    where
      size : ℕ
      size = count (types s.of)

      source : List point_ties.Tie
      source = led (row (places.Number s.of) 0 size) (places.Part q) 0

      left : List point_ties.Tie
      left = led (row (places.Number s.left) 0 size) (places.Part q) size

      right : List point_ties.Tie
      right = led (row (places.Number s.right) 0 size) (places.Part q) (size + size)

      at_source : (j : ℕ) × (j < size) × (ties.tie (point (places.Number s.of) (0 + j)) (point (places.Part q) (0 + j)) ≡ u)
          → IsKept (suc q) ss (one_lodging types q x s (seen ss s) l) (lifted u)
      at_source (j, lt, e) =
          subst (λ (v : point_ties.Tie). IsKept (suc q) ss (one_lodging types q x s (seen ss s) l) (lifted v)) e
          (source_kept types s ss tidy.once inner tidy.apart.0 q x l (0 + j) tidy.order.0 (omega (arith, lt))
          (held s.of (0 + j) tidy.order.0 (of_gone inner s ss gone tidy)))

      at_left : (j : ℕ) × (j < size) × (ties.tie (point (places.Number s.left) (0 + j)) (point (places.Part q) (size + j)) ≡ u)
          → IsKept (suc q) ss (one_lodging types q x s (seen ss s) l) (lifted u)
      at_left (j, lt, e) =
          let same : size + 0 * size + (0 + j) ≡ size + j = omega arith in
          subst (λ (v : point_ties.Tie). IsKept (suc q) ss (one_lodging types q x s (seen ss s) l) (lifted v)) e
          (subst (λ (g : ℕ). IsKept (suc q) ss (one_lodging types q x s (seen ss s) l) (tie (Within 0 (Number s.left (0 + j))) (Within 0 (Of (PartEnd q g))))) same
          (caller_kept types s ss tidy.once inner tidy.apart.0 q x l 0 (0 + j) (omega arith) (omega (arith, lt))))

      at_right : (j : ℕ) × (j < size) × (ties.tie (point (places.Number s.right) (0 + j)) (point (places.Part q) (size + size + j)) ≡ u)
          → IsKept (suc q) ss (one_lodging types q x s (seen ss s) l) (lifted u)
      at_right (j, lt, e) =
          let same : size + 1 * size + (0 + j) ≡ size + size + j = omega arith in
          subst (λ (v : point_ties.Tie). IsKept (suc q) ss (one_lodging types q x s (seen ss s) l) (lifted v)) e
          (subst (λ (g : ℕ). IsKept (suc q) ss (one_lodging types q x s (seen ss s) l) (tie (Within 0 (Number s.right (0 + j))) (Within 0 (Of (PartEnd q g))))) same
          (caller_kept types s ss tidy.once inner tidy.apart.0 q x l 1 (0 + j) (omega arith) (omega (arith, lt))))

  final_shares : (ss : List Split) (q x : ℕ) (l : Lodging) (gone : List ℕ) → IsTidy inner ss gone → Held inner ss gone l
      → (u : point_ties.Tie) → Contains (shares_ties q ss types) u
      → Near (lodging types q x inner ss l).env ((lodging types q x inner ss l).home (lifted u).one) ((lodging types q x inner ss l).home (lifted u).other)
  final_shares [] q x l gone tidy held u (k, lt, e) = absurd (omega (arith, lt))
  final_shares (s ∷ ss) q x l gone tidy held u has =
      elim (Contains-append_cases (share_ties q (count (types s.of)) s) (shares_ties (suc q) ss types) u has) [
        | inl own ↦
            final_near ss (suc q) (suc x) (one_lodging types q x s (seen ss s) l) (s.of ∷ gone) (tidy_on inner s ss gone tidy) (lifted u)
            (own_kept s ss q x l gone tidy held u own)
        | inr rest ↦
            final_shares ss (suc q) (suc x) (one_lodging types q x s (seen ss s) l) (s.of ∷ gone) (tidy_on inner s ss gone tidy)
            (held_on types s ss tidy.once inner tidy.apart.0 q x l gone held) u rest
      ]

  -- the ties of supplies
  abbrev joint_tie : Joint → Tie
  joint_tie j = tie (Of j.asking) (Of j.serving)

  results_listed : (n h m : ℕ) (t : Tie) → Contains (result_ties n h m) t
      → (g : ℕ) × (tie (Within 0 (Number n g)) (Within (suc n) (Of (ResultEnd g))) ≡ t)
  results_listed n h zero t (k, lt, e) = absurd (omega (arith, lt))
  results_listed n h (suc m) t (zero, lt, e) = (h, e)
  results_listed n h (suc m) t (suc k, lt, e) = results_listed n (suc h) m t (k, omega (arith, lt), e)

  module _ (ss : List Split) (q : ℕ) (env : Supplies) where
    abbrev first : Lodging
    first = first_lodging (live ss inner) env

    old_if : (b : Bool) (n : ℕ) (e : End) → times n (sides ss) ≡ 0 → IsOld ss (spot_if b n e)
    old_if true n e none = none
    old_if false n e none = tt

    result_kept : (n g : ℕ) → times n (sides ss) ≡ 0 → IsKept q ss first (tie (Within 0 (Number n g)) (Within (suc n) (Of (ResultEnd g))))
    result_kept n g none = record { near = near (live ss inner n); one = none; other = tt; old = old_if (live ss inner n) n (ResultEnd g) none }
      where
        near : (b : Bool) → Near env (spot_if b n (ResultEnd g)) (spot_if b n (ResultEnd g))
        near true = (refl, here (Of (ResultEnd g)))
        near false = tt

    joint_kept : (n : ℕ) (j : Joint) → times n (sides ss) ≡ 0 → Contains (env n).plan.joints j
        → IsKept q ss first (tie (Within (suc n) (Of j.asking)) (Within (suc n) (Of j.serving)))
    joint_kept n j none there =
        record { near = near (live ss inner n); one = tt; other = tt; old = old_if (live ss inner n) n j.asking none }
      where
        near : (b : Bool) → Near env (spot_if b n j.asking) (spot_if b n j.serving)
        near true = (refl, along (Of j.asking) (Of j.serving) (Of j.serving) (inl (in_image joint_tie (env n).plan.joints j there)) (here (Of j.serving)))
        near false = tt

    one_kept : (n : ℕ) (t : Tie) → times n (sides ss) ≡ 0 → Contains (supply_ties types env n) t → IsKept q ss first t
    one_kept n t none has =
        elim (Contains-append_cases (within (suc n) (own_web (env n).plan).ties) (result_ties n 0 (count (types n))) t has) [
          | inl own ↦
              (let (u, there, is) = of_image (λ (v : Tie). tie (Within (suc n) v.one) (Within (suc n) v.other)) (own_web (env n).plan).ties t own in
              let (j, listed, same) = of_image joint_tie (env n).plan.joints u there in
              subst (IsKept q ss first) is
              (subst (λ (v : Tie). IsKept q ss first (tie (Within (suc n) v.one) (Within (suc n) v.other))) same (joint_kept n j none listed)))
          | inr result ↦ (let (g, is) = results_listed n 0 (count (types n)) t result in subst (IsKept q ss first) is (result_kept n g none))
        ]

    all_kept : (ns : List ℕ) (t : Tie) → ((n : ℕ) → Contains ns n → times n (sides ss) ≡ 0) → Contains (all_supply_ties types env ns) t → IsKept q ss first t
    all_kept [] t outside (k, lt, e) = absurd (omega (arith, lt))
    all_kept (n ∷ ns) t outside has =
        elim (Contains-append_cases (supply_ties types env n) (all_supply_ties types env ns) t has) [
          | inl own ↦ one_kept n t (outside n (0, omega arith, refl)) own
          | inr rest ↦ all_kept ns t (λ m there. outside m (suc there.0, omega (arith, there.1), there.2)) rest
        ]

  first_held : (ss : List Split) (env : Supplies) → Held inner ss [] (first_lodging (live ss inner) env)
  first_held ss env n h none away = refl

  all_homes : (i : ℕ) (ss : List Split) (env : Supplies) (ns : List ℕ) (t : Tie)
      → AreTidy inner ss ns → Contains (within 0 (dot_ties (shares_ties i ss types)) ++ all_supply_ties types env ns) t
      → Near (lodged types i inner ss env).env ((lodged types i inner ss env).home t.one) ((lodged types i inner ss env).home t.other)
  all_homes i ss env ns t tidy has =
      elim (Contains-append_cases (within 0 (dot_ties (shares_ties i ss types))) (all_supply_ties types env ns) t has) [
        | inl share ↦
            (let (v, there, is) = of_image (λ (v : Tie). tie (Within 0 v.one) (Within 0 v.other)) (dot_ties (shares_ties i ss types)) t share in
            let (u, listed, same) = of_image (λ (u : point_ties.Tie). tie (dot_of u.one) (dot_of u.other)) (shares_ties i ss types) v there in
            let both : lifted u ≡ t = ap (λ (v : Tie). tie (Within 0 v.one) (Within 0 v.other)) same ∙ is in
            subst (λ (t : Tie). Near (lodged types i inner ss env).env ((lodged types i inner ss env).home t.one) ((lodged types i inner ss env).home t.other)) both
            (final_shares ss i 0 (first_lodging (live ss inner) env) [] (tidy_first inner ss ns tidy) (first_held ss env) u listed))
        | inr supply ↦
            final_near ss i 0 (first_lodging (live ss inner) env) [] (tidy_first inner ss ns tidy) t (all_kept ss i env ns t tidy.outside supply)
      ]

pub homes_are_kept : HomesAreKept
homes_are_kept types i inner ss env ns t tidy has = all_homes types inner i ss env ns t tidy has

pub numbers_are_held : NumbersAreHeld
numbers_are_held types i inner ss env ns n h tidy none =
    final_held types inner ss i 0 (first_lodging (live ss inner) env) [] (tidy_first inner ss ns tidy) (first_held types inner ss env) n h none refl

-- the supplies are those inside
inside_so : (types : Types) (inner : ℕ → Bool) (ss : List Split) (q x : ℕ) (l : Lodging) → (lodging types q x inner ss l).env ≡ inside_supplies types ss l.env
inside_so types inner [] q x l = refl
inside_so types inner (s ∷ ss) q x l = inside_so types inner ss (suc q) (suc x) (one_lodging types q x s (seen types inner ss s) l)

pub lodged_are_inside : LodgedAreInside
lodged_are_inside types i inner ss env = inside_so types inner ss i 0 (first_lodging (live ss inner) env)
