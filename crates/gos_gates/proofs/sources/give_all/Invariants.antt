use Rattle.std.specs.Prelude.{map}
use Rattle.gos_netlist.specs.Seen.{cell_of}
use Rattle.gos_gates.proofs.SumLemmas.{GivesOn}
use Rattle.gos_gates.proofs.sources.give_all.Given as goal

-- what is given so far, with what is still to come, is all; and there is room for it
abbrev pub invariant-loop-net : goal.invariant-loop-net
invariant-loop-net l = GivesOn (map cell_of l.cells) l.nets l.initial.draft l.draft l.net-index
