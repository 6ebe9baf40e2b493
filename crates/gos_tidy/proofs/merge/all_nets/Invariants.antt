use Rattle.gos_tidy.specs.inner.Roots.{AreAll}
use Rattle.gos_tidy.proofs.merge.all_nets.Given as goal

abbrev pub invariant-loop-n : goal.invariant-loop-n
invariant-loop-n l = AreAll l.n l.nets.items
