use Rattle.std.proofs.Common.{All, List}
use Rattle.gos_sim.specs.declared.evaluation.Run.{Run}
use Rattle.gos_sim.specs.inner.Spots.{IsSpot}
use Rattle.gos_sim.proofs.spots.add_spots.Given as goal

abbrev pub invariant-loop : goal.invariant-loop
invariant-loop l = (runs : List Run) → IsSpot runs l.spot → All (IsSpot runs) l.initial.all.items → All (IsSpot runs) l.all.items
