use Rattle.std.proofs.Common.{◌≡◌, map, take}
use Rattle.gos_netlist.specs.Settling.{at}
use Rattle.gos_sim.specs.inner.Places.{latch_moved}
use Rattle.gos_sim.proofs.places.latches_moved.Given as goal

-- the registers so far
abbrev pub invariant-loop-latch : goal.invariant-loop-latch
invariant-loop-latch l = l.there.items ≡ map (latch_moved (at l.places)) (take l.latch-index l.latches)
