use Rattle.std.proofs.Common.{◌≡◌, ◌++◌, map, drop}
use Rattle.gos_netlist.specs.Seen.{cell_of}
use Rattle.gos_verilog.specs.Lines.{cell_declarations}
use Rattle.gos_verilog.proofs.printing.add_cells.Given as goal

-- with the lines that are left the text is whole
abbrev pub invariant-loop-i : goal.invariant-loop-i
invariant-loop-i l =
    l.text.items ++ cell_declarations l.i (map cell_of (drop l.i l.cells)) ≡ l.initial.text.items ++ cell_declarations 0 (map cell_of l.cells)
