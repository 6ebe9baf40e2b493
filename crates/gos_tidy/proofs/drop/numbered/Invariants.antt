use Rattle.gos_tidy.specs.inner.Places.{AreNumbers}
use Rattle.gos_tidy.proofs.drop.numbered.Given as goal

abbrev pub invariant-loop-n : goal.invariant-loop-n
invariant-loop-n l = AreNumbers l.marks l.n l.numbers.numbers.items l.numbers.places.items
