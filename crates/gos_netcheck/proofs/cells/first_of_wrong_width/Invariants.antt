use Rattle.std.proofs.Common.{map}
use Rattle.gos_netlist.specs.Seen.{cell_of}
use Rattle.gos_netcheck.specs.Rules.{KeptBefore}
use Rattle.gos_netcheck.specs.CellRules.{HasRightWidths, widths_of}
use Rattle.gos_netcheck.proofs.cells.first_of_wrong_width.Given as goal

-- all cells so far have right widths
abbrev pub invariant-loop-n : goal.invariant-loop-n
invariant-loop-n l = KeptBefore (λ _ c. HasRightWidths (widths_of (map cell_of l.cells)) c) (map cell_of l.cells) l.n
