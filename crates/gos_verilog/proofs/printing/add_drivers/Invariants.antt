use Rattle.std.proofs.Common.{◌≡◌, ◌++◌, map, drop}
use Rattle.gos_netlist.specs.Seen.{cell_of}
use Rattle.gos_verilog.specs.inner.Drivers.{driven}
use Rattle.gos_verilog.proofs.printing.add_drivers.Given as goal

-- with the lines that are left the text is whole
abbrev pub invariant-loop-i : goal.invariant-loop-i
invariant-loop-i l =
    l.text.items ++ driven l.nets l.table l.i (map cell_of (drop l.i l.cells)) ≡ l.initial.text.items ++ driven l.nets l.table 0 (map cell_of l.cells)
