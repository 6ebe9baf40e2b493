use Rattle.std.proofs.Common.{◌≤◌, length, map}
use Rattle.gos_netlist.specs.Seen.{cell_of}
use Rattle.gos_sim.specs.inner.Places.{by_net}
use Rattle.gos_sim.proofs.CountingLemmas.{AreQuiet}
use Rattle.gos_sim.proofs.visits.is_visited.Given as goal

-- the nets of the level so far read nothing that differs
abbrev pub invariant-loop-link : goal.invariant-loop-link
invariant-loop-link g l =
    record {
      below : l.link ≤ length l.cells;
      quiet : AreQuiet l.levels (map cell_of l.cells) (by_net l.places l.before) (by_net l.places l.values) l.level l.link;
    }

-- links lead down
abbrev pub decreases-loop-link : goal.decreases-loop-link
decreases-loop-link g l = l.link
