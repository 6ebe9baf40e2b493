use Rattle.std.proofs.Common.{map}
use Rattle.gos_netlist.specs.Seen.{cell_of}
use Rattle.gos_netlist.specs.Settling.{at}
use Rattle.gos_netcheck.specs.Rules.{KeptBefore}
use Rattle.gos_tidy.specs.inner.Roots.{IsPlaced}
use Rattle.gos_tidy.proofs.quotient.all_stand.Given as goal

-- all cells so far stand for the ones that they go to
abbrev pub invariant-loop-n : goal.invariant-loop-n
invariant-loop-n l = KeptBefore (IsPlaced (map cell_of l.others) (at l.targets) l.roots) (map cell_of l.cells) l.n
