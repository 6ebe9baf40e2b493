use Rattle.std.proofs.Common.{◌≡◌, ◌≤◌, ◌-◌}
use Rattle.gos_pulse.proofs.RunLemmas.{IsUnderWay}
use Rattle.gos_pulse.proofs.driver.drive.Given as goal

-- the run so far
abbrev pub invariant-loop-t : goal.invariant-loop-t
invariant-loop-t l =
    record {
      net : l.sim.net ≡ l.initial.sim.net;
      within : l.t ≤ l.cycles;
      since : l.queue.since ≤ l.t;
      run : IsUnderWay l.sim l.entries l.t l.queue.since l.queue.entries.now l.board l.lines.items;
    }

abbrev pub decreases-loop-t : goal.decreases-loop-t
decreases-loop-t l = l.cycles - l.t
