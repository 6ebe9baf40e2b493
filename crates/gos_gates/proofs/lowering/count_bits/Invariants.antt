use Rattle.std.specs.Prelude.{◌≡◌, ◌≤◌, ◌*◌, map, take, sum_by}
use Rattle.gos_types.specs.declared.widths.TheConstants.{GREATEST_WIDTH}
use Rattle.gos_netlist.specs.Seen.{cell_of}
use Rattle.gos_gates.specs.Lowered.{units}
use Rattle.gos_gates.proofs.lowering.count_bits.Given as goal

-- the bits so far, of each cell at most those of four numbers
abbrev pub invariant-loop-cell : goal.invariant-loop-cell
invariant-loop-cell l = record {
  sum : l.bits ≡ sum_by (units (map cell_of l.cells)) (map cell_of (take l.cell-index l.cells));
  few : l.bits ≤ 4 * GREATEST_WIDTH * l.cell-index;
}
