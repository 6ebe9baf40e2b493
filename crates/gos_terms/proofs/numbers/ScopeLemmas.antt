-- A term is in scope where all numbers are that it uses.
use Rattle.std.specs.Prelude.{◌≡◌, ℕ, zero, suc, ◌+◌, ◌<◌, ◌≤◌, List, [], ◌∷◌, ◌++◌}
use Rattle.std.proofs.Common.{ap, subst, arith, inl, inr}
use Rattle.gos_model.proofs.NumberLemmas.{either, number_cases}
use Rattle.gos_check.specs.declared.linear.Split.{Split}
use Rattle.gos_check.specs.Nodes.{Numbered, Closed, Use, Under, One, Two, If}
use Rattle.gos_check.specs.Linearity.{times, split_in, sides, used, made}
use Rattle.gos_check.proofs.TimesLemmas.{times_same, times_other, times-append, some_times, listed_times}
use Rattle.gos_terms.specs.leaves.Splits.{SplitsAtForks}
use Rattle.gos_terms.specs.stages.Inside.{numbers_inside, AreSplit}
use Rattle.gos_terms.specs.stages.Lodging.{AreInOrder}
use Rattle.gos_terms.specs.numbers.Kept.{InScope}
use Rattle.gos_terms.proofs.numbers.ListLemmas.{times_inside}

-- there where it was
abbrev pub Stays : ℕ → List ℕ → List ℕ → Type 0
Stays k ns ms = 0 < times k ns → 0 < times k ms

stays_by : (k : ℕ) (ns ms : List ℕ) (a b c : ℕ) → b ≡ a + times k ns → c ≡ a + times k ms → Stays k ns ms → 0 < b → 0 < c
stays_by k ns ms zero b c one two h small = let there = h (omega (arith, one, small)) in omega (arith, two, there)
stays_by k ns ms (suc a) b c one two h small = omega (arith, two)

stays_inside : (k : ℕ) (ss : List Split) (ns ms : List ℕ) → Stays k ns ms → Stays k (numbers_inside ss ns) (numbers_inside ss ms)
stays_inside k ss ns ms h small =
    stays_by k ns ms (times k (sides ss)) (times k (numbers_inside ss ns)) (times k (numbers_inside ss ms)) (times_inside k ss ns) (times_inside k ss ms) h small

stays_below : (k n : ℕ) (ns ms : List ℕ) → Stays k ns ms → Stays k (ns ++ n ∷ []) (ms ++ n ∷ [])
stays_below k n ns ms h small =
    let one = times-append k ns (n ∷ []) in let two = times-append k ms (n ∷ []) in
    stays_by k ns ms (times k (n ∷ [])) (times k (ns ++ n ∷ [])) (times k (ms ++ n ∷ [])) (omega (arith, one)) (omega (arith, two)) h small

pub restrict_split : (ss : List Split) (ns ms : List ℕ) → ((k : ℕ) → 0 < times k (split_in ss) → Stays k ns ms) → AreSplit ss ns → AreSplit ss ms
restrict_split [] ns ms h there = tt
restrict_split (s ∷ ss) ns ms h there = (
  listed_times s.of ms (let one = times_same s.of (split_in ss) in h s.of (omega (arith, one)) (some_times s.of ns there.0)),
  restrict_split ss (s.left ∷ s.right ∷ ns) (s.left ∷ s.right ∷ ms)
      (λ k small. stays_by k ns ms (times k (s.left ∷ s.right ∷ [])) (times k (s.left ∷ s.right ∷ ns)) (times k (s.left ∷ s.right ∷ ms)) (omega arith) (omega arith)
      (h k (omega (arith, small)))) there.1,
)

pub restrict : (m : Numbered) (ns ms : List ℕ) → ((k : ℕ) → 0 < times k (used m) → Stays k ns ms) → InScope ns m → InScope ms m
restrict (Closed t ss c) ns ms h there = restrict_split ss ns ms h there
restrict (Use t ss n) ns ms h there =
    listed_times n ms
    (let two = times-append n (split_in ss) (n ∷ []) in let one = times_same n [] in h n (omega (arith, one, two)) (some_times n ns there))
restrict (Under t ss b n m) ns ms h there = (
  restrict_split ss ns ms (λ k small. let two = times-append k (split_in ss) (used m) in h k (omega (arith, small, two))) there.0,
  restrict m (numbers_inside ss ns ++ n ∷ []) (numbers_inside ss ms ++ n ∷ [])
      (λ k small. stays_below k n (numbers_inside ss ns) (numbers_inside ss ms)
      (stays_inside k ss ns ms (let two = times-append k (split_in ss) (used m) in h k (omega (arith, small, two))))) there.1,
)
restrict (One t ss f m) ns ms h there = (
  restrict_split ss ns ms (λ k small. let two = times-append k (split_in ss) (used m) in h k (omega (arith, small, two))) there.0,
  restrict m (numbers_inside ss ns) (numbers_inside ss ms)
      (λ k small. stays_inside k ss ns ms (let two = times-append k (split_in ss) (used m) in h k (omega (arith, small, two)))) there.1,
)
restrict (Two t ss f m n) ns ms h there =
    let counted : (k : ℕ) → times k (used (Two t ss f m n)) ≡ times k (split_in ss) + (times k (used m) + times k (used n)) =
    (λ k. (let one = times-append k (split_in ss) (used m ++ used n) in let two = times-append k (used m) (used n) in omega (arith, one, two))) in (
      restrict_split ss ns ms (λ k small. let all = counted k in h k (omega (arith, small, all))) there.0,
      restrict m (numbers_inside ss ns) (numbers_inside ss ms) (λ k small. stays_inside k ss ns ms (let all = counted k in h k (omega (arith, small, all)))) there.1,
      restrict n (numbers_inside ss ns) (numbers_inside ss ms) (λ k small. stays_inside k ss ns ms (let all = counted k in h k (omega (arith, small, all)))) there.2,
    )
restrict (If t ss m n p) ns ms h there =
    let counted : (k : ℕ) → times k (used (If t ss m n p)) ≡ times k (split_in ss) + (times k (used m) + (times k (used n) + times k (used p))) =
    (λ k. (let one = times-append k (split_in ss) (used m ++ (used n ++ used p)) in
    let two = times-append k (used m) (used n ++ used p) in let three = times-append k (used n) (used p) in omega (arith, one, two, three))) in (
      restrict_split ss ns ms (λ k small. let all = counted k in h k (omega (arith, small, all))) there.0,
      restrict m (numbers_inside ss ns) (numbers_inside ss ms) (λ k small. stays_inside k ss ns ms (let all = counted k in h k (omega (arith, small, all)))) there.1,
      restrict n (numbers_inside ss ns) (numbers_inside ss ms) (λ k small. stays_inside k ss ns ms (let all = counted k in h k (omega (arith, small, all)))) there.2,
      restrict p (numbers_inside ss ns) (numbers_inside ss ms) (λ k small. stays_inside k ss ns ms (let all = counted k in h k (omega (arith, small, all)))) there.3,
    )

-- what is used is there, or made
pub split_covered : (ss : List Split) (ns : List ℕ) → AreSplit ss ns → (k : ℕ) → 0 < times k (split_in ss) → 0 < times k (sides ss) + times k ns
split_covered [] ns there k small = absurd (omega (arith, small))
split_covered (s ∷ ss) ns there k small = number_cases s.of k
    (λ e t. let here : 0 < times k ns = subst (λ (a : ℕ). 0 < times a ns) e (some_times s.of ns there.0) in omega (arith, here))
    (λ e f. let less = times_other k s.of (split_in ss) e in
    let rest = split_covered ss (s.left ∷ s.right ∷ ns) there.1 k (omega (arith, small, less)) in omega (arith, rest))

pub covered : (m : Numbered) (ns : List ℕ) → SplitsAtForks m → InScope ns m → (k : ℕ) → 0 < times k (used m) → 0 < times k (made m) + times k ns
covered (Closed t ss c) ns forks there k small = split_covered ss ns there k small
covered (Use t ss n) ns forks there k small =
    let two = times-append k (split_in ss) (n ∷ []) in
    let none = ap (λ (ts : List Split). times k (split_in ts)) forks in
    number_cases n k
    (λ e t. let here : 0 < times k ns = subst (λ (a : ℕ). 0 < times a ns) e (some_times n ns there) in omega (arith, here))
    (λ e f. let less = times_other k n [] e in absurd (omega (arith, small, two, none, less)))
covered (Under t ss b n m) ns forks there k small =
    let all = times-append k (sides ss) (n ∷ made m) in
    let has : times k (n ∷ made m) ≡ times k (n ∷ []) + times k (made m) = omega arith in
    let more = times-append k (numbers_inside ss ns) (n ∷ []) in
    let at = times_inside k ss ns in
    elim (either (times k (split_in ss)) (times k (used m)) (let two = times-append k (split_in ss) (used m) in omega (arith, small, two))) [
      | inl h ↦ (let here = split_covered ss ns there.0 k h in omega (arith, here, all))
      | inr h ↦ (let here = covered m (numbers_inside ss ns ++ n ∷ []) forks.1 there.1 k h in omega (arith, here, all, has, more, at))
    ]
covered (One t ss f m) ns forks there k small =
    let all = times-append k (sides ss) (made m) in
    let at = times_inside k ss ns in
    elim (either (times k (split_in ss)) (times k (used m)) (let two = times-append k (split_in ss) (used m) in omega (arith, small, two))) [
      | inl h ↦ (let here = split_covered ss ns there.0 k h in omega (arith, here, all))
      | inr h ↦ (let here = covered m (numbers_inside ss ns) forks.1 there.1 k h in omega (arith, here, all, at))
    ]
covered (Two t ss f m n) ns forks there k small =
    let all = times-append k (sides ss) (made m ++ made n) in
    let more = times-append k (made m) (made n) in
    let at = times_inside k ss ns in
    elim (either (times k (split_in ss)) (times k (used m ++ used n)) (let two = times-append k (split_in ss) (used m ++ used n) in omega (arith, small, two))) [
      | inl h ↦ (let here = split_covered ss ns there.0 k h in omega (arith, here, all))
      | inr j ↦
          elim (either (times k (used m)) (times k (used n)) (let two = times-append k (used m) (used n) in omega (arith, j, two))) [
            | inl h ↦ (let here = covered m (numbers_inside ss ns) forks.0 there.1 k h in omega (arith, here, all, more, at))
            | inr h ↦ (let here = covered n (numbers_inside ss ns) forks.1 there.2 k h in omega (arith, here, all, more, at))
          ]
    ]
covered (If t ss m n p) ns forks there k small =
    let all = times-append k (sides ss) (made m ++ (made n ++ made p)) in
    let more = times-append k (made m) (made n ++ made p) in
    let last = times-append k (made n) (made p) in
    let at = times_inside k ss ns in
    elim (either (times k (split_in ss)) (times k (used m ++ (used n ++ used p))) (let two = times-append k (split_in ss) (used m ++ (used n ++ used p)) in omega (arith, small, two))) [
      | inl h ↦ (let here = split_covered ss ns there.0 k h in omega (arith, here, all))
      | inr j ↦
          elim (either (times k (used m)) (times k (used n ++ used p)) (let two = times-append k (used m) (used n ++ used p) in omega (arith, j, two))) [
            | inl h ↦ (let here = covered m (numbers_inside ss ns) forks.0 there.1 k h in omega (arith, here, all, more, last, at))
            | inr i ↦
                elim (either (times k (used n)) (times k (used p)) (let two = times-append k (used n) (used p) in omega (arith, i, two))) [
                  | inl h ↦ (let here = covered n (numbers_inside ss ns) forks.1 there.2 k h in omega (arith, here, all, more, last, at))
                  | inr h ↦ (let here = covered p (numbers_inside ss ns) forks.2 there.3 k h in omega (arith, here, all, more, last, at))
                ]
          ]
    ]

-- what is split was there before
pub in_order : (ss : List Split) (ns : List ℕ) → ((k : ℕ) → times k (sides ss) + times k ns ≤ 1) → AreSplit ss ns → AreInOrder ss
in_order [] ns once there = tt
in_order (s ∷ ss) ns once there = (
  (let here = some_times s.of ns there.0 in let one = once s.of in omega (arith, here, one)),
  in_order ss (s.left ∷ s.right ∷ ns) (λ k. let one = once k in omega (arith, one)) there.1,
)
