-- A split with its uses, and one whose side is its own source.
use Rattle.std.specs.Prelude.{◌≡◌, ℕ, zero, suc, ◌<◌, ◌≤◌, [], ◌∷◌}
use Rattle.std.proofs.Common.{refl, ◌∙◌, arith}
use Rattle.gos_check.specs.Linearity.{times}
use Rattle.gos_check.proofs.TimesLemmas.{times_other}
use Rattle.gos_terms.specs.leaves.SmallSplits.{TwiceIsSplit, OwnSideStands, OwnSideIsNoFork, OwnSideIsNotWithin}

none_large : (k : ℕ) → times (suc (suc (suc k))) (1 ∷ 2 ∷ []) ≡ 0
none_large k =
    times_other (suc (suc (suc k))) 1 (2 ∷ []) (λ e. omega (arith, e)) ∙ times_other (suc (suc (suc k))) 2 [] (λ e. omega (arith, e))

two_once : (k : ℕ) → 0 < times k (1 ∷ 2 ∷ []) → times k (1 ∷ 2 ∷ []) ≡ 1
two_once zero small = absurd (omega (arith, small))
two_once (suc zero) small = refl
two_once (suc (suc zero)) small = refl
two_once (suc (suc (suc k))) small = let none = none_large k in absurd (omega (arith, small, none))

two_few : (k : ℕ) → times k (1 ∷ 2 ∷ []) ≤ 1
two_few zero = omega arith
two_few (suc zero) = omega arith
two_few (suc (suc zero)) = omega arith
two_few (suc (suc (suc k))) = let none = none_large k in omega (arith, none)

used_twice : (k : ℕ) → 0 < times k (1 ∷ 2 ∷ []) → times k (0 ∷ 1 ∷ 2 ∷ []) ≡ 1
used_twice zero small = absurd (omega (arith, small))
used_twice (suc zero) small = refl
used_twice (suc (suc zero)) small = refl
used_twice (suc (suc (suc k))) small = let none = none_large k in absurd (omega (arith, small, none))

pub twice_is_split : TwiceIsSplit
twice_is_split = ((used_twice, ((λ k small. absurd (omega (arith, small))), refl), ((λ k small. absurd (omega (arith, small))), refl)), (refl, refl))

pub own_side_stands : OwnSideStands
own_side_stands =
    record {
      body = refl;
      types = refl;
      made_once = two_few;
      no_import = λ k small. omega arith;
      used_once = two_few;
      sides_used = two_once;
      apart = tt;
    }

pub own_side_is_no_fork : OwnSideIsNoFork
own_side_is_no_fork none = cc none

pub own_side_is_not_within : OwnSideIsNotWithin
own_side_is_not_within (once, free) = cc free
