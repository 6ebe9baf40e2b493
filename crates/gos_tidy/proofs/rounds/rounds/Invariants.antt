use Rattle.gos_tidy.specs.inner.Changes.{size}
use Rattle.gos_tidy.proofs.RoundLemmas.{IsOnTheWay}
use Rattle.gos_tidy.proofs.rounds.rounds.Given as goal

abbrev pub invariant-loop-other : goal.invariant-loop-other
invariant-loop-other l = IsOnTheWay l.net l.other

abbrev pub decreases-loop-other : goal.decreases-loop-other
decreases-loop-other l = size l.other.cells
