-- A plan of a command or an expression rests after its answer exactly where it rests whenever nothing is open at its ports.
--
-- Read first: Rests of gos_supplies; Nodes of windows. Before the result is asked nothing can come in, since an import is busy only
-- where the result is.
use Rattle.std.specs.Prelude.{◌↔◌}
use Rattle.gos_types.specs.Types.{IsDone}
use Rattle.gos_plan.specs.Plans.{Plan}
use Rattle.gos_realises.specs.realises.Regular.{IsRegular}
use Rattle.gos_supplies.specs.turns.Rests.{Rests}
use Rattle.gos_nodes.specs.windows.Nodes.{IsRestful}

-- The imports may have any types.
abbrev pub RestfulRests : Type 0
RestfulRests = (p : Plan) → IsDone p.outcome → IsRegular p → IsRestful p ↔ Rests p
