use Rattle.std.proofs.Common.{map, ℕ, ◌<◌}
use Rattle.gos_netlist.specs.Seen.{cell_of}
use Rattle.gos_tidy.specs.inner.Breaches.{IsFirmAt, HasCells}
use Rattle.gos_tidy.proofs.breach.first_breach.Given as goal

-- no cell so far may be changed, and the table has them
abbrev pub invariant-loop-net : goal.invariant-loop-net
invariant-loop-net l = ((k : ℕ) → k < l.net → IsFirmAt (map cell_of l.cells) k) × HasCells (map cell_of l.cells) l.net l.table
