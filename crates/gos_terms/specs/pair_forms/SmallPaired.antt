-- A pair whose children share a command, and one whose children use it without a split.
--
-- Read first: Cases; SmallKept of numbers. They show that the definitions can be met and can be missed.
use Rattle.std.specs.Prelude.{[], ◌∷◌}
use Rattle.gos_types.specs.Types.{Com, Pair}
use Rattle.gos_check.specs.Nodes.{Numbered, Use, Two, OfBoth}
use Rattle.gos_terms.specs.wired.Regular.{RegularWired}
use Rattle.gos_terms.specs.numbers.Kept.{IsKept}

-- number 0 is used twice in a pair
abbrev pub pair_twice : Numbered
pair_twice = Two (Pair Com Com) (record { of = 0; left = 1; right = 2 } ∷ []) OfBoth (Use Com [] 1) (Use Com [] 2)

-- It is kept, and so is regular and rests, however it is wired to a command for number 0.
abbrev pub TwiceIsKept : Type 0
TwiceIsKept = IsKept (λ n. Com) (0 ∷ []) pair_twice

abbrev pub TwiceIsSteady : Type 0
TwiceIsSteady = RegularWired (λ n. Com) (0 ∷ []) pair_twice

-- without a split
abbrev pub unsplit_pair : Numbered
unsplit_pair = Two (Pair Com Com) [] OfBoth (Use Com [] 0) (Use Com [] 0)

abbrev pub UnsplitIsNotKept : Type 0
UnsplitIsNotKept = IsKept (λ n. Com) (0 ∷ []) unsplit_pair → ⊥
