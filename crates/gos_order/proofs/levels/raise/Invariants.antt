use Rattle.gos_order.proofs.RaiseLemmas.{AreRaisedBefore}
use Rattle.gos_order.proofs.levels.raise.Given as goal

abbrev pub invariant-loop-place : goal.invariant-loop-place
invariant-loop-place l = AreRaisedBefore l.nodes.items l.level l.initial.levels l.levels l.place
