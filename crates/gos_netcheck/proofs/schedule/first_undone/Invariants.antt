use Rattle.std.proofs.Common.{map}
use Rattle.gos_netlist.specs.Seen.{cell_of, number_of}
use Rattle.gos_netcheck.specs.Rules.{KeptBefore}
use Rattle.gos_netcheck.specs.inner.Search.{IsDone}
use Rattle.gos_netcheck.proofs.schedule.first_undone.Given as goal

-- all nets so far are registers or placed
abbrev pub invariant-loop-net : goal.invariant-loop-net
invariant-loop-net l = KeptBefore (λ _ a. IsDone (map cell_of l.cells) l.marks a) (map number_of l.nets) l.net-index
