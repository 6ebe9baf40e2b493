use Rattle.std.proofs.Common.{map, length}
use Rattle.gos_netlist.specs.Seen.{cell_of}
use Rattle.gos_netcheck.specs.Rules.{KeptBefore}
use Rattle.gos_netcheck.specs.CellRules.{PinsExist}
use Rattle.gos_netcheck.proofs.cells.first_without_net.Given as goal

-- all cells so far name nets that are there
abbrev pub invariant-loop-n : goal.invariant-loop-n
invariant-loop-n l = KeptBefore (λ _ c. PinsExist (length l.cells) c) (map cell_of l.cells) l.n
