use Rattle.std.proofs.Common.{map}
use Rattle.gos_netlist.specs.Seen.{cell_of}
use Rattle.gos_tidy.specs.inner.Places.{ArePlaced}
use Rattle.gos_tidy.proofs.drop.placed.Given as goal

abbrev pub invariant-loop-place : goal.invariant-loop-place
invariant-loop-place l = ArePlaced (map cell_of l.cells) (map cell_of l.left.items) l.numbers l.places l.place-index
