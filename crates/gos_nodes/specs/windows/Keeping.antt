-- Inputs that keep turns keep the protocol.
--
-- Read first: Realises of gos_realises. It is the converse of what is said there: so a stage's list, whose inputs keep turns,
-- is one of those that realising speaks of.
use Rattle.std.specs.Prelude.{List, []}
use Rattle.gos_types.specs.Types.{IsDone}
use Rattle.gos_model.specs.Protocol.{KeepsProtocol}
use Rattle.gos_plan.specs.Plans.{Plan}
use Rattle.gos_plan.specs.Tokens.{Tokens, Element, Runs}
use Rattle.gos_realises.specs.realises.Regular.{InputsKeepTurns}
use Rattle.gos_realises.specs.realises.Matched.{all_shown}
use Rattle.gos_realises.specs.realises.Realises.{AllGround, NamesDiffer}

-- The names have to differ, since the protocol knows a port by its name.
abbrev pub TurnsKeepProtocol : Type 0
TurnsKeepProtocol =
    (p : Plan) (xs : List Element) (s t : Tokens)
    → AllGround p.imports → NamesDiffer p.imports → IsDone p.outcome → Runs p xs s t → InputsKeepTurns p [] xs
    → KeepsProtocol p.imports (all_shown p xs)
