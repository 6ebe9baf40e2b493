use Rattle.std.proofs.Common.{ap, refl}
use Rattle.gos_sim.specs.inner.Past.{is_rest}
use Rattle.gos_sim.proofs.active.Active.cycle.Goals as goal

pub run-requires-clause-given : goal.run-requires-clause-given
run-requires-clause-given g c = λ yes. c.requires.given (ap is_rest c.in-Rest.is)

pub returns-in-Rest-clause-rest : goal.returns-in-Rest-clause-rest
returns-in-Rest-clause-rest g c = λ yes. (refl, c.run.ensures.rests refl)

pub returns-in-All-clause-awake : goal.returns-in-All-clause-awake
returns-in-All-clause-awake g c = c.settle.ensures.awake _ _ _ c.requires.awake

pub returns-in-All-clause-settled : goal.returns-in-All-clause-settled
returns-in-All-clause-settled g c = λ yes.
    c.settle.ensures.settled _ _ _ _ c.run-stands.ensures.run.settles.evaluated c.run-stands.ensures.run.taken
