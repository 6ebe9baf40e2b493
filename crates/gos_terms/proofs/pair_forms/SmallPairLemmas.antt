-- A small pair is kept, and is regular and rests.
use Rattle.std.specs.Prelude.{◌≤◌, [], ◌∷◌}
use Rattle.std.proofs.Common.{refl, arith}
use Rattle.gos_types.specs.Types.{Com}
use Rattle.gos_check.specs.Linearity.{used}
use Rattle.gos_check.specs.Nodes.{Use}
use Rattle.gos_terms.specs.leaves.RegularLeaves.{UseIsRegular}
use Rattle.gos_terms.specs.leaves.SmallSplits.{TwiceIsSplit}
use Rattle.gos_terms.specs.numbers.Inherited.{own_numbers, first_numbers}
use Rattle.gos_terms.proofs.numbers.SmallKeptLemmas.{the_split, apart, once, used_once}
use Rattle.gos_terms.specs.pair_forms.Cases.{BothIsSteady}
use Rattle.gos_terms.specs.pair_forms.SmallPaired.{TwiceIsKept, TwiceIsSteady, UnsplitIsNotKept}

pub twice_is_kept : TwiceIsSplit → TwiceIsKept
twice_is_kept is =
    record {
      once = once;
      used_once = used_once;
      scope = (((0, omega arith, refl), tt), (0, omega arith, refl), (1, omega arith, refl));
      within = is.0;
      apart = (apart 1, apart 2, tt, tt);
      forks = is.1;
      typed = ((refl, refl, tt), refl, (tt, refl), (tt, refl));
    }

-- its children are uses
pub twice_is_steady : TwiceIsSplit → UseIsRegular → BothIsSteady → TwiceIsSteady
twice_is_steady is uses law =
    law (λ n. Com) (0 ∷ []) Com Com (the_split ∷ []) (Use Com [] 1) (Use Com [] 2) (twice_is_kept is) refl refl
    (uses (λ n. Com) (first_numbers (the_split ∷ []) (0 ∷ []) (used (Use Com [] 2))) 1 Com (0, omega arith, refl) refl)
    (uses (λ n. Com) (own_numbers (the_split ∷ []) (0 ∷ []) (Use Com [] 2)) 2 Com (0, omega arith, refl) refl)

pub unsplit_is_not_kept : UnsplitIsNotKept
unsplit_is_not_kept is = let one : 2 ≤ 1 = is.used_once 0 in omega (arith, one)
