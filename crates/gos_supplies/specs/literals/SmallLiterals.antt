-- The number 5 of 8 bits, and what its plan doesn't realise.
--
-- Read first: Literals.
use Rattle.gos_types.specs.Types.{Com, Exp}
use Rattle.gos_model.specs.Terms as terms
use Rattle.gos_realises.specs.realises.Realises.{Realises}
use Rattle.gos_supplies.specs.literals.Literals.{number_plan}

abbrev pub FiveIsRealised : Type 0
FiveIsRealised = Realises (Exp 8) (number_plan 0 8 5) (terms.Lit 5 8)

-- another number
abbrev pub FiveIsNotSix : Type 0
FiveIsNotSix = Realises (Exp 8) (number_plan 0 8 5) (terms.Lit 6 8) → ⊥

-- a number of more bits than it has
abbrev pub NoneIsTooLarge : Type 0
NoneIsTooLarge = Realises (Exp 2) (number_plan 0 2 5) (terms.Lit 5 2) → ⊥

-- a command
abbrev pub FiveIsNotDone : Type 0
FiveIsNotDone = Realises Com (number_plan 0 8 5) terms.Skip → ⊥
