use Rattle.std.proofs.Common.{List, subst}
use Rattle.gos_sim.specs.declared.event_nets.EventNets.{EventNets}
use Rattle.gos_sim.specs.Cycle.{GivesAll}
use Rattle.gos_sim.proofs.machine.Machine.rests.Goals as goal

pub returns-then-still-clause-given : goal.returns-then-still-clause-given
returns-then-still-clause-given g c = λ given.
    subst (λ (es : List EventNets). GivesAll es c.args.inputs.now c.args.values.now) c.deref.ensures.value (c.is_given.ensures given)
