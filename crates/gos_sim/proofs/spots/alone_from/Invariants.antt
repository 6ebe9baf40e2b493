use Rattle.std.proofs.Common.{◌≡◌, ◌+◌, ◌-◌, ◌<◌, drop, length}
use Rattle.gos_sim.specs.inner.Spots.{steps_in}
use Rattle.gos_sim.proofs.spots.alone_from.Given as goal

-- so many steps are left before the one that is sought
abbrev pub invariant-loop-place : goal.invariant-loop-place
invariant-loop-place l =
    record {
      some : l.left < steps_in (drop l.place l.runs);
      here : l.step + steps_in (drop l.place l.runs) ≡ l.left + steps_in l.runs;
    }

abbrev pub decreases-loop-place : goal.decreases-loop-place
decreases-loop-place l = length l.runs - l.place
