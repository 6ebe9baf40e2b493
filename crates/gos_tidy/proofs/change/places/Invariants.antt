use Rattle.gos_tidy.specs.inner.Changes.{AreNumbersOf, skip}
use Rattle.gos_tidy.proofs.change.places.Given as goal

abbrev pub invariant-loop-net : goal.invariant-loop-net
invariant-loop-net l = AreNumbersOf (skip l.left_out) l.net l.places.items
