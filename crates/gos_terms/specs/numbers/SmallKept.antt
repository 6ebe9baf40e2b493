-- A number that is used twice, where it is there and where it isn't.
--
-- Read first: Kept; SmallSplits of leaves. It shows that the definition can be met and can be missed.
use Rattle.std.specs.Prelude.{[], ◌∷◌}
use Rattle.gos_types.specs.Types.{Com}
use Rattle.gos_terms.specs.leaves.SmallSplits.{twice}
use Rattle.gos_terms.specs.numbers.Kept.{IsKept}

-- number 0 is there
abbrev pub TwiceIsKept : Type 0
TwiceIsKept = IsKept (λ n. Com) (0 ∷ []) twice

-- no number is there
abbrev pub NoneIsNotKept : Type 0
NoneIsNotKept = IsKept (λ n. Com) [] twice → ⊥
