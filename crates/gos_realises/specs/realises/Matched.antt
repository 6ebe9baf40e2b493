-- Lists of a plan, matched by moves of a program.
--
-- Read first: Moves of gos_model; Orderly of gos_plan. The moves are cut into a piece for each element of the list.
use Rattle.std.specs.Prelude.{◌≡◌, ◌≢◌, ℕ, ◌+◌, Bool, true, false, List, [], ◌∷◌, ◌++◌, Option, Some, None, slice_get}
use Rattle.std.specs.List.{list_any}
use Rattle.gos_types.specs.Events.{Direction, Request, Answer}
use Rattle.gos_model.specs.Terms.{Term}
use Rattle.gos_model.specs.Labels.{Port, Given, Taken, Label}
use Rattle.gos_model.specs.Moves.{Program, Config, Idle, Act, Moves, labels, Stalled}
use Rattle.gos_model.specs.Protocol.{KeepsProtocol}
use Rattle.gos_plan.specs.Firing.{Slot, Req, Ans, Token, Row}
use Rattle.gos_model.specs.Typing.{Imported}
use Rattle.gos_plan.specs.Plans.{End, PartEnd, ImportEnd, ResultEnd, Plan}
use Rattle.gos_plan.specs.Tokens.{Tokens, Element, Fire, Out, In, token_at, firing_of, Does, Runs, IsIdle, IsQuiet}
use Rattle.gos_plan.specs.Orderly.{IsOrderly}
use Rattle.gos_realises.specs.realises.Regular.{InputsKeepTurns}

-- the port of an import that there is; where there is none, the given one
abbrev pub port_if : Option Imported → Port
port_if None = Given
port_if (Some i) = Taken i.name

-- the number of an event: of the first or the second of handshake h, which are a request and an answer
abbrev pub event_number : Direction → ℕ → ℕ
event_number Request h = h + h
event_number Answer h = h + h + 1

-- Which event of its handshake is shown: at an import the program puts the first and takes the second, at its result it takes
-- the first and puts the second. At ports that are ground these are the request and the answer.
abbrev pub outward : End → Direction
outward (PartEnd i h) = Answer
outward (ImportEnd i h) = Request
outward (ResultEnd h) = Answer

abbrev pub inward : End → Direction
inward (PartEnd i h) = Request
inward (ImportEnd i h) = Answer
inward (ResultEnd h) = Request

-- the label of a token that passes a port's end
abbrev pub label_at : Plan → End → Direction → ℕ → Label
label_at p (PartEnd i h) way v = record { port = Given; event = 0; value = 0 }
label_at p (ImportEnd i h) way v = record { port = port_if (slice_get p.imports i); event = event_number way h; value = v }
label_at p (ResultEnd h) way v = record { port = Given; event = event_number way h; value = v }

-- what an element shows: an output or an input its label, a firing nothing
abbrev pub shows : Plan → Element → List Label
shows p (Fire i t) = []
shows p (Out e v) = label_at p e (outward e) v ∷ []
shows p (In e v) = label_at p e (inward e) v ∷ []

abbrev pub all_shown : Plan → List Element → List Label
all_shown p [] = []
all_shown p (x ∷ xs) = shows p x ++ all_shown p xs

-- whether a request is among these tokens
abbrev pub is_request_slot : Slot → Bool
is_request_slot (Req h) = true
is_request_slot (Ans h) = false

abbrev pub asks_on : List Token → Bool
asks_on ts = list_any (λ t. is_request_slot t.slot) ts

-- a firing that takes an answer and puts a request is matched by a move at least
abbrev pub GoesOn : Plan → Tokens → Element → List Act → Type 0
GoesOn p s (Fire i (Req h)) acts = Unit {0}
GoesOn p s (Fire i (Ans h)) acts =
    (v : ℕ) (r : Row) → token_at p s (PartEnd i h) Answer ≡ Some v → firing_of (slice_get p.parts i) (s.state i) (Ans h) ≡ Some r
    → asks_on (r.puts v) ≡ true → acts ≢ []
GoesOn p s (Out e v) acts = Unit {0}
GoesOn p s (In e v) acts = Unit {0}

-- where no firing and no output is possible the program can only wait, and where it is idle so are the tokens
abbrev pub Agrees : Plan → Program → Tokens → Config → Type 0
Agrees p g s c = (IsQuiet p s → Stalled g c) × (c ≡ Idle → IsIdle p s)

-- the list from token state s is matched by moves from c
abbrev pub IsMatched : Plan → Program → List Element → Tokens → Config → Type 0
IsMatched p g [] s c = Agrees p g s c
IsMatched p g (x ∷ xs) s c =
    Agrees p g s c
    × ((t : Tokens) → Does p x s t
    → (acts : List Act) × (d : Config) × Moves g acts c d × (labels acts ≡ shows p x) × GoesOn p s x acts × IsMatched p g xs t d)

-- the program of a term with the plan's imports
abbrev pub program_of : Plan → Term → Program
program_of p m = record { imports = p.imports; body = m }

-- From every idle state each list whose inputs keep turns is matched by moves from Idle, and is orderly.
abbrev pub RealisesInTurn : Plan → Term → Type 0
RealisesInTurn p m =
    (s t : Tokens) (xs : List Element)
    → IsIdle p s → Runs p xs s t → InputsKeepTurns p [] xs → IsMatched p (program_of p m) xs s Idle × IsOrderly p xs s

-- The same of lists whose inputs keep the protocol. Where a plan is regular and its imports are ground this is the same: Inputs.
abbrev pub RealisesDone : Plan → Term → Type 0
RealisesDone p m =
    (s t : Tokens) (xs : List Element)
    → IsIdle p s → Runs p xs s t → KeepsProtocol p.imports (all_shown p xs) → IsMatched p (program_of p m) xs s Idle × IsOrderly p xs s
