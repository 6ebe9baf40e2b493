-- Inputs that keep the protocol keep turns.
--
-- Read first: Realises. The protocol speaks of each handshake at a port alone, and turns of all of them. What a plan of a
-- command or an expression does by the protocol, whether or not it realises anything, a regular plan does in order.
use Rattle.std.specs.Prelude.{List, []}
use Rattle.gos_types.specs.Types.{IsDone}
use Rattle.gos_model.specs.Terms.{Term}
use Rattle.gos_model.specs.Moves.{Idle}
use Rattle.gos_model.specs.Protocol.{KeepsProtocol}
use Rattle.gos_model.specs.ArrayPorts.{KeepsPorts}
use Rattle.gos_plan.specs.Plans.{Plan}
use Rattle.gos_plan.specs.Tokens.{Tokens, Element, Runs, IsIdle}
use Rattle.gos_realises.specs.realises.Regular.{InputsKeepTurns, IsRegular}
use Rattle.gos_realises.specs.realises.Matched.{all_shown, IsMatched, program_of, RealisesInTurn, RealisesDone}
use Rattle.gos_realises.specs.realises.Realises.{AllGround, AllPorts, NamesDiffer}

-- The names have to differ, since the protocol knows a port by its name.
abbrev pub ProtocolKeepsTurns : Type 0
ProtocolKeepsTurns =
    (p : Plan) (xs : List Element) (s t : Tokens)
    → IsRegular p → AllPorts p.imports → NamesDiffer p.imports → IsDone p.outcome → IsIdle p s → Runs p xs s t
    → KeepsProtocol p.imports (all_shown p xs) → InputsKeepTurns p [] xs

-- So do inputs that keep the protocol of ports, where imports may be of arrays, and the other way round.
abbrev pub PortsKeepTurns : Type 0
PortsKeepTurns =
    (p : Plan) (xs : List Element) (s t : Tokens)
    → IsRegular p → AllPorts p.imports → NamesDiffer p.imports → IsDone p.outcome → IsIdle p s → Runs p xs s t
    → KeepsPorts p.imports (all_shown p xs) → InputsKeepTurns p [] xs

abbrev pub TurnsKeepPorts : Type 0
TurnsKeepPorts =
    (p : Plan) (xs : List Element) (s t : Tokens)
    → IsRegular p → AllPorts p.imports → NamesDiffer p.imports → IsDone p.outcome → IsIdle p s → Runs p xs s t
    → InputsKeepTurns p [] xs → KeepsPorts p.imports (all_shown p xs)

-- Of a regular plan only that its lists are matched is left to be shown: that they are orderly follows.
abbrev pub MatchingSuffices : Type 0
MatchingSuffices =
    (p : Plan) (m : Term)
    → IsRegular p
    → ((s t : Tokens) (xs : List Element)
    → IsIdle p s → Runs p xs s t → InputsKeepTurns p [] xs → IsMatched p (program_of p m) xs s Idle)
    → RealisesInTurn p m

-- And where it realises a program by turns it does by the protocol; where its imports are ground nowhere else, since the
-- protocol permits no input at an array's port.
abbrev pub RealisingIsByTurns : Type 0
RealisingIsByTurns =
    (p : Plan) (m : Term)
    → IsRegular p → AllPorts p.imports → NamesDiffer p.imports → IsDone p.outcome
    → (AllGround p.imports → RealisesDone p m → RealisesInTurn p m) × (RealisesInTurn p m → RealisesDone p m)
