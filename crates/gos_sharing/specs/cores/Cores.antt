-- A plan does what its core does.
--
-- Read first: Core.
use Rattle.std.specs.Prelude.{All}
use Rattle.gos_types.specs.Types.{Type'}
use Rattle.gos_model.specs.Terms.{Term}
use Rattle.gos_plan.specs.Plans.{Plan}
use Rattle.gos_plan.specs.TokenBits.{LiteralFits}
use Rattle.gos_realises.specs.realises.Regular.{IsRegular}
use Rattle.gos_realises.specs.realises.Matched.{RealisesInTurn}
use Rattle.gos_realises.specs.realises.Realises.{AllPorts, NamesDiffer, Realises}
use Rattle.gos_programs.specs.contexts.Widening.{Knows}
use Rattle.gos_supplies.specs.turns.Rests.{Rests}
use Rattle.gos_sharing.specs.cores.Core.{Core, IsCore, IsStill}

-- The plan is regular where its core is. No handshake of an import that the core does not have is ever open: an output there would take a
-- token, and an input keeps turns only where something is open there already.
abbrev pub CoreIsRegular : Type 0
CoreIsRegular = (f : Core) (r c : Plan) → IsCore f r c → IsStill f r c → IsRegular c → IsRegular r

-- And it rests where its core does.
abbrev pub CoreRests : Type 0
CoreRests = (f : Core) (r c : Plan) → IsCore f r c → IsStill f r c → Rests c → Rests r

-- It realises the commands and expressions that its core realises, where the core's imports have all their names: what asks for an import
-- that the core has not would wait for it in the core alone.
abbrev pub CoreIsDone : Type 0
CoreIsDone =
    (f : Core) (r c : Plan) (m : Term)
    → IsCore f r c → IsStill f r c → NamesDiffer r.imports → Knows c.imports m
    → RealisesInTurn c m → RealisesInTurn r m

-- And it realises what its core realises, at each type.
abbrev pub CoreIsRealised : Type 0
CoreIsRealised =
    (f : Core) (r c : Plan) (t : Type') (m : Term)
    → IsCore f r c → IsStill f r c → All LiteralFits r.parts → AllPorts r.imports → NamesDiffer r.imports → Realises t c m → Realises t r m
