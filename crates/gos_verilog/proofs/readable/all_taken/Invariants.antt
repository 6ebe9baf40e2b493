use Rattle.std.proofs.Common.{map}
use Rattle.gos_netlist.specs.Seen.{cell_of}
use Rattle.gos_netcheck.specs.Rules.{KeptBefore}
use Rattle.gos_verilog.specs.inner.Inputs.{IsTakenInput}
use Rattle.gos_verilog.proofs.readable.all_taken.Given as goal

-- all Input cells so far are taken
abbrev pub invariant-loop-n : goal.invariant-loop-n
invariant-loop-n l = KeptBefore (IsTakenInput l.taken) (map cell_of l.cells) l.n
