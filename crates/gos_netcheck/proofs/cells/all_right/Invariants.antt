use Rattle.std.proofs.Common.{map, length}
use Rattle.gos_netlist.specs.Seen.{cell_of}
use Rattle.gos_netcheck.specs.Rules.{KeptBefore}
use Rattle.gos_netcheck.specs.CellRules.{PinsExist, HasRightWidths, widths_of}
use Rattle.gos_netcheck.proofs.cells.all_right.Given as goal

-- all cells so far keep both rules
abbrev pub invariant-loop-cell : goal.invariant-loop-cell
invariant-loop-cell l =
    KeptBefore (λ _ c. PinsExist (length l.cells) c) (map cell_of l.cells) l.cell-index
    × KeptBefore (λ _ c. HasRightWidths (widths_of (map cell_of l.cells)) c) (map cell_of l.cells) l.cell-index
