use Rattle.std.proofs.Common.{◌≤◌, map}
use Rattle.gos_netlist.specs.Seen.{cell_of}
use Rattle.gos_sim.specs.inner.Places.{by_net}
use Rattle.gos_sim.proofs.CountingLemmas.{CountsBefore}
use Rattle.gos_sim.proofs.visits.levels_visited.Given as goal

-- the levels so far are counted
abbrev pub invariant-loop-level : goal.invariant-loop-level
invariant-loop-level g l =
    record {
      above : 1 ≤ l.level;
      within : l.count ≤ l.level;
      counts : CountsBefore l.levels (map cell_of l.cells) (by_net l.places l.before) (by_net l.places l.values) l.level l.count;
    }
