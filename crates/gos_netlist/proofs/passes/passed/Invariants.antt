use Rattle.std.proofs.Common.{◌≡◌, map}
use Rattle.gos_netlist.specs.Seen.{cell_of}
use Rattle.gos_netlist.specs.inner.Passes.{after_passes}
use Rattle.gos_netlist.proofs.passes.passed.Given as goal

-- the values are those after as many passes as there were turns
abbrev pub invariant-loop : goal.invariant-loop
invariant-loop l = l.values.items ≡ after_passes l.counter (map cell_of l.cells) l.registers l.inputs
