-- A number that is used twice, where it is there and where it isn't.
use Rattle.std.specs.Prelude.{◌≡◌, ℕ, zero, suc, ◌+◌, ◌<◌, ◌≤◌, [], ◌∷◌}
use Rattle.std.proofs.Common.{refl, sym, ◌∙◌, ap, subst, arith, inl, inr}
use Rattle.gos_types.specs.Types.{Com}
use Rattle.gos_check.specs.declared.linear.Split.{Split}
use Rattle.gos_check.specs.Linearity.{times, IsOneOf, Comes, itself, by_left, by_right, IsSplitBetween}
use Rattle.gos_check.specs.Nodes.{Use}
use Rattle.gos_check.proofs.TimesLemmas.{times_other}
use Rattle.gos_terms.specs.leaves.SmallSplits.{TwiceIsSplit}
use Rattle.gos_terms.specs.numbers.SmallKept.{TwiceIsKept, NoneIsNotKept}

abbrev pub the_split : Split
the_split = record { of = 0; left = 1; right = 2 }

of_split : (s : Split) → IsOneOf s (the_split ∷ []) → s ≡ the_split
of_split s (inl e) = e
of_split s (inr h) = absurd h

-- only 0 is split
alone : (n a : ℕ) → Comes (the_split ∷ []) n a → 0 < n → n ≡ a
alone n a (itself _) small = refl
alone n a (by_left s _ one c) small = let e : s.of ≡ 0 = ap (λ (u : Split). u.of) (of_split s one) in absurd (omega (arith, small, e))
alone n a (by_right s _ one c) small = let e : s.of ≡ 0 = ap (λ (u : Split). u.of) (of_split s one) in absurd (omega (arith, small, e))

-- 1 and 2 are not both used by themselves
module _ (n : ℕ) where
  both_sides : (a b : ℕ) → a ≡ 1 → b ≡ 2 → 0 < times a (n ∷ []) → 0 < times b (n ∷ []) → ⊥
  both_sides a b e d small more =
      let one : 0 < times 1 (n ∷ []) = subst (λ (k : ℕ). 0 < times k (n ∷ [])) e small in
      let two : 0 < times 2 (n ∷ []) = subst (λ (k : ℕ). 0 < times k (n ∷ [])) d more in
      by_number n one two
    where
      by_number : (m : ℕ) → 0 < times 1 (m ∷ []) → 0 < times 2 (m ∷ []) → ⊥
      by_number zero one two = omega (arith, one)
      by_number (suc zero) one two = omega (arith, two)
      by_number (suc (suc m)) one two = let none = times_other 1 (suc (suc m)) [] (λ h. omega (arith, h)) in omega (arith, one, none)

  pub apart : IsSplitBetween (the_split ∷ []) (Use Com [] n)
  apart s a b one c d small more =
      let is = of_split s one in
      let left : s.left ≡ 1 = ap (λ (u : Split). u.left) is in
      let right : s.right ≡ 2 = ap (λ (u : Split). u.right) is in
      both_sides a b (sym (alone s.left a c (omega (arith, left))) ∙ left) (sym (alone s.right b d (omega (arith, right))) ∙ right) small more

none_large : (k : ℕ) → times (suc (suc (suc k))) (1 ∷ 2 ∷ []) ≡ 0
none_large k =
    times_other (suc (suc (suc k))) 1 (2 ∷ []) (λ e. omega (arith, e)) ∙ times_other (suc (suc (suc k))) 2 [] (λ e. omega (arith, e))

pub once : (k : ℕ) → times k (1 ∷ 2 ∷ []) + times k (0 ∷ []) ≤ 1
once zero = omega arith
once (suc zero) = omega arith
once (suc (suc zero)) = omega arith
once (suc (suc (suc k))) =
    let none = none_large k in let zero_none = times_other (suc (suc (suc k))) 0 [] (λ e. omega (arith, e)) in omega (arith, none, zero_none)

pub used_once : (k : ℕ) → times k (0 ∷ 1 ∷ 2 ∷ []) ≤ 1
used_once k = let all = once k in omega (arith, all)

pub twice_is_kept : TwiceIsSplit → TwiceIsKept
twice_is_kept is =
    record {
      once = once;
      used_once = used_once;
      scope = (((0, omega arith, refl), tt), (0, omega arith, refl), (1, omega arith, refl));
      within = is.0;
      apart = (apart 1, apart 2, tt, tt);
      forks = is.1;
      typed = ((refl, refl, tt), (tt, refl, refl), (tt, refl), (tt, refl));
    }

pub none_is_not_kept : NoneIsNotKept
none_is_not_kept is = let lt = is.scope.0.0.1 in omega (arith, lt)
