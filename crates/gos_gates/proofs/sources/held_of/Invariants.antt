use Rattle.std.specs.Prelude.{◌≡◌, ◌++◌, map, drop}
use Rattle.gos_netlist.specs.Seen.{cell_of}
use Rattle.gos_gates.specs.inner.Laying.{held_nets}
use Rattle.gos_gates.proofs.sources.held_of.Given as goal

-- the nets so far, and those that are still to come
abbrev pub invariant-loop-cell : goal.invariant-loop-cell
invariant-loop-cell l = held_nets (map cell_of l.cells) ≡ l.nets.items ++ held_nets (map cell_of (drop l.cell-index l.cells))
