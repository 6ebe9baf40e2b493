use Rattle.std.proofs.Common.{◌≡◌, length}
use Rattle.gos_sim.specs.inner.Places.{IsPartly}
use Rattle.gos_sim.proofs.places.Places.add_latches.Given as goal

-- some nets have places
abbrev pub invariant-loop-latch : goal.invariant-loop-latch
invariant-loop-latch l =
    record {
      partly : IsPartly l.self.of.items l.self.count;
      each : length l.self.of.items ≡ length l.initial.self.of.items;
    }
