use Rattle.std.proofs.Common.{◌≡◌, ◌++◌, drop, map}
use Rattle.gos_netlist.specs.Seen.{cell_of}
use Rattle.gos_netlist.specs.inner.Passes.{pass, pass_from}
use Rattle.gos_netlist.proofs.passes.next_values.Given as goal

-- what is shown so far, and what the rest will show
abbrev pub invariant-loop-n : goal.invariant-loop-n
invariant-loop-n l =
    l.next.items ++ pass_from l.n (map cell_of (drop l.n l.cells)) l.registers l.inputs l.values
    ≡ pass (map cell_of l.cells) l.registers l.inputs l.values
