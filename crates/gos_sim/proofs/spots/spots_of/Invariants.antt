use Rattle.std.proofs.Common.{◌≡◌, ◌+◌, All, drop}
use Rattle.gos_sim.specs.inner.Spots.{IsSpot, steps_in}
use Rattle.gos_sim.proofs.spots.spots_of.Given as goal

-- the runs so far have spots
abbrev pub invariant-loop-run : goal.invariant-loop-run
invariant-loop-run l =
    record {
      spots : All (IsSpot l.runs) l.all.items;
      left : l.before + steps_in (drop l.run l.runs) ≡ steps_in l.runs;
    }
