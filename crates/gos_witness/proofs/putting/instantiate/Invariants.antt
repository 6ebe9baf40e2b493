use Rattle.gos_witness.specs.inner.Jobs.{work}
use Rattle.gos_witness.proofs.InstantiateLemmas.{IsPutting}
use Rattle.gos_witness.proofs.putting.instantiate.Given as goal

-- what is to be done stands for the whole
abbrev pub invariant-loop-state : goal.invariant-loop-state
invariant-loop-state l = IsPutting l.fn.list l.list l.fn.body l.fn.argument l.jobs.items l.state

abbrev pub decreases-loop-state : goal.decreases-loop-state
decreases-loop-state l = work l.list l.jobs.items l.state
