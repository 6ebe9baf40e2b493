use Rattle.std.specs.Prelude.{map}
use Rattle.gos_netlist.specs.Seen.{cell_of}
use Rattle.gos_gates.proofs.LayLemmas.{LaysOn}
use Rattle.gos_gates.proofs.laying.lay_all.Given as goal

-- what is laid so far, with what is still to come, is all
abbrev pub invariant-loop-net : goal.invariant-loop-net
invariant-loop-net l = LaysOn (map cell_of l.cells) l.order l.initial.draft l.draft l.net-index
