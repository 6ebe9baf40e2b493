-- The calls that a store of the tests has recorded.
use Rattle.std.specs.Prelude.{ℕ, List, map, Option, None, Some, Vec}
use Rattle.std.specs.declared.alloc.Global.{Global}
use Rattle.gos_outside.specs.Calls.{MadeCall, Did, Read, Write}

-- the name of a file, and how many bytes were asked for where it was read
abbrev pub Recorded : Type 0
Recorded = Vec ℕ Global × Option ℕ

abbrev pub made_call : Recorded → MadeCall
made_call (name, Some most) = Did (Read name.items most)
made_call (name, None) = Did (Write name.items)

abbrev pub made_calls : List Recorded → List MadeCall
made_calls recorded = map made_call recorded
