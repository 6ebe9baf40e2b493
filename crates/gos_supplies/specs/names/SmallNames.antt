-- A name's plan without its joint is none.
--
-- Read first: Names.
use Rattle.std.specs.Prelude.{[]}
use Rattle.gos_types.specs.Types.{Com}
use Rattle.gos_model.specs.Terms.{Name, Import}
use Rattle.gos_realises.specs.realises.Realises.{Realises}
use Rattle.gos_supplies.specs.names.Names.{name_plan}

abbrev pub UnjoinedIsNone : Type 0
UnjoinedIsNone = (x : Name) → Realises Com (record (name_plan x Com) { joints = [] }) (Import x) → ⊥
