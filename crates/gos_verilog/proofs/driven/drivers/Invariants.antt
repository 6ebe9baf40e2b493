use Rattle.std.proofs.Common.{◌≡◌, ◌≤◌, length, map, drop}
use Rattle.gos_verilog.specs.inner.Breaks.{LeadsOn}
use Rattle.gos_verilog.specs.inner.Left.{HaveNetNames, LeftDrivers}
use Rattle.std.specs.List.{AllByRecursion}
use Rattle.gos_netlist.specs.Seen.{cell_of}
use Rattle.gos_netlist.specs.Writable.{IsWritableCell}
use Rattle.gos_verilog.proofs.NotedLemmas.{DriversSoFar}
use Rattle.gos_verilog.proofs.driven.drivers.Given as goal

-- so many cells are read
abbrev pub invariant-loop-i : goal.invariant-loop-i
invariant-loop-i l =
    record {
      cells : AllByRecursion IsWritableCell (map cell_of l.cells.items);
      count : length l.cells.items ≡ l.i;
      within : l.at ≤ length l.text;
      left : HaveNetNames l.nets → LeadsOn (LeftDrivers l.nets 0 l.shapes) (LeftDrivers l.nets l.i (drop l.i l.shapes)) (record { text = l.text; at = l.initial.at }) (record { text = l.text; at = l.at });
      far : DriversSoFar l.text l.initial.at l.nets l.shapes l.initial.inputs l.inputs l.i l.at l.cells.items;
    }
