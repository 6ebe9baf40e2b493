-- Plans that rest: where no handshake at a port is open, nothing goes on within.
--
-- Read first: Regular of gos_realises.
use Rattle.std.specs.Prelude.{◌≡◌, false, List, [], ◌∷◌}
use Rattle.gos_plan.specs.Plans.{End, Plan, contact_at}
use Rattle.gos_plan.specs.Tokens.{Tokens, Element, Fire, Out, In, Runs, IsIdle}
use Rattle.gos_realises.specs.realises.Regular.{Pass, pass, way_in, way_out, is_open, InputsKeepTurns}

-- what passed at the ports, after these, the newest first
abbrev pub passes : Plan → List Pass → List Element → List Pass
passes p past [] = past
passes p past (Fire i t ∷ xs) = passes p past xs
passes p past (Out e v ∷ xs) = passes p (pass e (way_out (contact_at p e)) ∷ past) xs
passes p past (In e v ∷ xs) = passes p (pass e (way_in (contact_at p e)) ∷ past) xs

-- no handshake at a port is open
abbrev pub AllShut : List Pass → Type 0
AllShut past = (e : End) → is_open past e ≡ false

-- Where no handshake at a port is open all is idle: over every list from an idle state whose inputs keep turns.
abbrev pub Rests : Plan → Type 0
Rests p =
    (s t : Tokens) (xs : List Element)
    → IsIdle p s → Runs p xs s t → InputsKeepTurns p [] xs → AllShut (passes p [] xs) → IsIdle p t
