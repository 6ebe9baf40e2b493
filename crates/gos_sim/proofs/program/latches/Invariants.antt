use Rattle.std.proofs.Common.{◌+◌, ◌≤◌, All, length, map, take}
use Rattle.gos_netlist.specs.Seen.{cell_of, number_of}
use Rattle.gos_sim.specs.inner.Program.{IsLatchWithin, steps_named}
use Rattle.gos_sim.proofs.RegisterLemmas.{AreMade}
use Rattle.gos_sim.proofs.program.latches.Given as goal

-- the registers of the nets so far
abbrev pub invariant-loop-net : goal.invariant-loop-net
invariant-loop-net l =
    record {
      index : l.net-index ≤ length l.order;
      made : AreMade (map cell_of l.cells) (take l.net-index (map number_of l.order)) l.latches.items;
      within : All (IsLatchWithin (length l.cells)) l.latches.items;
      few : length (steps_named l.cells (take l.net-index (map number_of l.order))) + length l.latches.items ≤ l.net-index;
    }
