-- Calls that a loop makes, a few in each turn.
use Rattle.std.proofs.Common.{◌≡◌, ◌≢◌, List, [], ◌++◌, refl}
use Rattle.gos_outside.specs.Calls.{StoreCall, Calls, and_all, Ending, Whole, Short, AreMade}
use Rattle.gos_outside.proofs.CallsLemmas.{ends_before, goes_on, stops_short}

-- Of all calls these are left: however they go, all go so.
abbrev pub IsLeft : List StoreCall → List StoreCall → Calls → Calls → Type 0
IsLeft all rest old now = (ending : Ending) (new : Calls) → AreMade ending rest now new → AreMade ending all old new

-- a turn made its calls
pub turn_made : (all turn rest : List StoreCall) (old now next : Calls) → IsLeft all (turn ++ rest) old now → next ≡ and_all now turn → IsLeft all rest old next
turn_made all turn rest old now next left made = λ ending new h. left ending new (goes_on ending turn rest now next new made h)

-- a turn ended before
pub turn_ends : (ending : Ending) (all turn rest : List StoreCall) (old now new : Calls) → IsLeft all (turn ++ rest) old now → ending ≢ Whole → AreMade ending turn now new
    → AreMade ending all old new
turn_ends ending all turn rest old now new left short made = left ending new (ends_before ending turn rest now new short made)

-- it ends after a turn's calls
pub ends_after : (all turn rest : List StoreCall) (old now new : Calls) → IsLeft all (turn ++ rest) old now → new ≡ and_all now turn → AreMade Short all old new
ends_after all turn rest old now new left made = left Short new (stops_short turn rest now new made)

-- none are left
pub none_left : (all : List StoreCall) (old now : Calls) → IsLeft all [] old now → AreMade Whole all old now
none_left all old now left = left Whole now refl
