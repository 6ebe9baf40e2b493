use Rattle.std.proofs.Common.{◌≡◌, ◌≤◌, ◌+◌, ◌*◌, map, drop}
use Rattle.gos_netlist.specs.Seen.{cell_of}
use Rattle.gos_tidy.specs.inner.Changes.{size}
use Rattle.gos_tidy.proofs.size.size_of.Given as goal

-- with what is left it is the size of all, and it counts each cell at most twice
abbrev pub invariant-loop-cell : goal.invariant-loop-cell
invariant-loop-cell l = record {
  sum : l.size + size (map cell_of (drop l.cell-index l.cells)) ≡ size (map cell_of l.cells);
  few : l.size ≤ 2 * l.cell-index;
}
