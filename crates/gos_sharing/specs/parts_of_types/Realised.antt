-- A plan with a wide Share realises what the one with the narrow Share does, at any type.
--
-- Read first: Narrow; Realises of gos_realises.
use Rattle.gos_types.specs.Types.{Type'}
use Rattle.gos_model.specs.Terms.{Term}
use Rattle.gos_plan.specs.Plans.{Plan}
use Rattle.gos_realises.specs.realises.Realises.{Realises}
use Rattle.gos_sharing.specs.parts_of_types.Narrow.{Narrowing, IsNarrow}

abbrev pub NarrowIsRealised : Type 0
NarrowIsRealised = (f : Narrowing) (z u : Plan) (t : Type') (m : Term) → IsNarrow f z u → Realises t u m → Realises t z m
