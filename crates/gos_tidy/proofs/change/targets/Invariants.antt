use Rattle.gos_tidy.specs.inner.Changes.{AreNumbersOf, target_of}
use Rattle.gos_tidy.proofs.change.targets.Given as goal

abbrev pub invariant-loop-net : goal.invariant-loop-net
invariant-loop-net l = AreNumbersOf (target_of l.left_out l.to) l.net l.targets.items
