-- A split with its uses, and one whose side is its own source.
--
-- Read first: Splits. They show that the definitions can be met and can be missed, and why a program has to have a type.
use Rattle.std.specs.Prelude.{[], ◌∷◌}
use Rattle.gos_types.specs.Types.{Com}
use Rattle.gos_model.specs.Terms.{Loc}
use Rattle.gos_model.specs.Moves.{Program}
use Rattle.gos_check.specs.Nodes.{Numbered, Use, Two, OfSeq}
use Rattle.gos_check.specs.Linearity.{StandsFor}
use Rattle.gos_terms.specs.leaves.Splits.{SplitsAtForks, SidesUsedWithin}

-- number 0 is used twice in a sequence
abbrev pub twice : Numbered
twice = Two Com (record { of = 0; left = 1; right = 2 } ∷ []) OfSeq (Use Com [] 1) (Use Com [] 2)

abbrev pub TwiceIsSplit : Type 0
TwiceIsSplit = SidesUsedWithin twice × SplitsAtForks twice

-- A split of 1 into 1 and 2, of which the node uses 2. Where numbers without a meaning stand for locations it stands for one.
abbrev pub own_side : Numbered
own_side = Use Com (record { of = 1; left = 1; right = 2 } ∷ []) 2

abbrev pub location : Program
location = record { imports = []; body = Loc 2 }

abbrev pub OwnSideStands : Type 0
OwnSideStands = StandsFor location own_side

abbrev pub OwnSideIsNoFork : Type 0
OwnSideIsNoFork = SplitsAtForks own_side → ⊥

abbrev pub OwnSideIsNotWithin : Type 0
OwnSideIsNotWithin = SidesUsedWithin own_side → ⊥
