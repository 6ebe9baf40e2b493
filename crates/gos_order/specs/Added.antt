-- What an order answers to an edge.
use Rattle.std.specs.Prelude.{Bool, false, Result, Ok, Err}
use Rattle.gos_types.specs.declared.fault.NoMemory.{NoMemory}

-- the edge was added
abbrev pub is_added : Result Bool NoMemory → Bool
is_added (Ok added) = added
is_added (Err fault) = false
