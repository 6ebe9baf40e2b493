-- A plan realises a program, at each type, where a plan does that is one with it but for numbers.
--
-- Read first: Realises of gos_realises; Renumbering of webs. Since renumbering back is renumbering, the two realise the same
-- programs. A program sees its imports by their names, so their order is nothing to it.
use Rattle.gos_types.specs.Types.{Type'}
use Rattle.gos_model.specs.Terms.{Term}
use Rattle.gos_plan.specs.Plans.{Plan}
use Rattle.gos_realises.specs.realises.Regular.{IsRegular}
use Rattle.gos_realises.specs.realises.Matched.{RealisesInTurn}
use Rattle.gos_realises.specs.realises.Realises.{NamesDiffer, Realises}
use Rattle.gos_joining.specs.webs.Renumbering.{Renumber, IsRenumbered}

-- a plan is regular where a renumbered one is
abbrev pub RenumberedIsRegular : Type 0
RenumberedIsRegular = (f : Renumber) (p q : Plan) → IsRenumbered f p q → IsRegular q → IsRegular p

-- and realises a program of a ground type
abbrev pub RenumberedIsDone : Type 0
RenumberedIsDone =
    (f : Renumber) (p q : Plan) (m : Term) → IsRenumbered f p q → NamesDiffer p.imports → RealisesInTurn q m → RealisesInTurn p m

-- and of any type
abbrev pub RenumberedIsRealised : Type 0
RenumberedIsRealised = (f : Renumber) (p q : Plan) (t : Type') (m : Term) → IsRenumbered f p q → Realises t q m → Realises t p m
