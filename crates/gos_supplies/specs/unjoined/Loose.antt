-- What stands beside a plan without a joint to it does nothing.
--
-- Read first: Beside; Realises of gos_realises. It is the weakening of the affine language: what isn't used is there, but
-- nothing asks it.
use Rattle.std.specs.Prelude.{All}
use Rattle.gos_types.specs.Types.{Type'}
use Rattle.gos_model.specs.Terms.{Term}
use Rattle.gos_plan.specs.Plans.{Plan}
use Rattle.gos_plan.specs.TokenBits.{LiteralFits}
use Rattle.gos_realises.specs.realises.Regular.{IsRegular}
use Rattle.gos_realises.specs.realises.Matched.{RealisesInTurn}
use Rattle.gos_realises.specs.realises.Realises.{AllPorts, NamesDiffer, Realises}
use Rattle.gos_programs.specs.contexts.Widening.{Knows}
use Rattle.gos_supplies.specs.turns.Rests.{Rests}
use Rattle.gos_supplies.specs.unjoined.Beside.{Placing, IsBeside}

-- The whole is regular where the plan is. An input at a loose import is an answer, and no loose part has asked; or a request of an
-- argument, which keeps turns only where the function itself is asked.
abbrev pub LooseIsRegular : Type 0
LooseIsRegular = (f : Placing) (r c : Plan) → IsBeside f r c → IsRegular c → IsRegular r

-- And it rests where the plan does.
abbrev pub LooseRests : Type 0
LooseRests = (f : Placing) (r c : Plan) → IsBeside f r c → Rests c → Rests r

-- It realises the commands and expressions that the plan realises, where the plan's imports have all their names.
abbrev pub LooseIsDone : Type 0
LooseIsDone =
    (f : Placing) (r c : Plan) (m : Term)
    → IsBeside f r c → NamesDiffer r.imports → Knows c.imports m → RealisesInTurn c m → RealisesInTurn r m

-- And at any type: whatever is joined to the whole is joined to the plan, with the same loose parts beside it. The literals
-- of loose parts fit as well, since a plan that realises a term has no others.
abbrev pub LooseIsRealised : Type 0
LooseIsRealised =
    (f : Placing) (r c : Plan) (t : Type') (m : Term)
    → IsBeside f r c → All LiteralFits r.parts → AllPorts r.imports → NamesDiffer r.imports → Realises t c m → Realises t r m
