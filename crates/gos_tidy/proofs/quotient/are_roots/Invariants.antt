use Rattle.std.proofs.Common.{map}
use Rattle.gos_netlist.specs.Seen.{cell_of}
use Rattle.gos_netlist.specs.Settling.{at}
use Rattle.gos_tidy.proofs.RootLemmas.{AreRootsBefore}
use Rattle.gos_tidy.proofs.quotient.are_roots.Given as goal

-- all roots so far are right
abbrev pub invariant-loop-place : goal.invariant-loop-place
invariant-loop-place l = AreRootsBefore (map cell_of l.cells) (map cell_of l.others) (at l.targets) l.roots l.place l.least
