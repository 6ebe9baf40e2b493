use Rattle.std.specs.Prelude.{◌≡◌, ◌++◌, map, drop}
use Rattle.gos_netlist.specs.Seen.{cell_of}
use Rattle.gos_gates.specs.Lowered.{registers, registers_from}
use Rattle.gos_gates.proofs.sources.registers_of.Given as goal

-- the registers so far, and those that are still to come
abbrev pub invariant-loop-n : goal.invariant-loop-n
invariant-loop-n l = registers (map cell_of l.cells) ≡ l.nets.items ++ registers_from l.n (map cell_of (drop l.n l.cells))
