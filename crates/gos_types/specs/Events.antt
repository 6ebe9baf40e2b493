-- The events of a ground type.
--
-- Read first: Types. A handshake of a port begins with a request and ends with an answer; each of the two is an event.
use Rattle.std.specs.Prelude.{ℕ, List, [], ◌∷◌, Option, Some, None}
use Rattle.gos_types.specs.Types.{Type', Com, Exp, Var}

-- whether an event begins a handshake or ends it
pub data Direction : Type 0 where
  Request Answer : Direction

-- an event: its direction, and the bits of its number, where it has one
pub data Event : Type 0 where
  Is : (way : Direction) (number : Option ℕ) → Event

-- the bits of a number; 0 where there is none
abbrev pub bits_of : Option ℕ → ℕ
bits_of None = 0
bits_of (Some bits) = bits

-- The events of a port of this type, by number. `com`: run, done. `exp`: ask, ans. `var`: read, ans, write, done.
-- So requests have even numbers and answers odd ones.
abbrev pub events : Type' → List Event
events Com = Is Request None ∷ Is Answer None ∷ []
events (Exp w) = Is Request None ∷ Is Answer (Some w) ∷ []
events (Var w) = Is Request None ∷ Is Answer (Some w) ∷ Is Request (Some w) ∷ Is Answer None ∷ []
events t = []
