use Rattle.std.proofs.Common.{map, ◌∙◌, ap}
use Rattle.gos_sim.specs.Cycle.{pulse_shown}
use Rattle.gos_sim.specs.inner.Machine.{plan_of}
use Rattle.gos_sim.proofs.StillLemmas.{still_runs}
use Rattle.gos_sim.proofs.machine.Machine.run.Goals as goal

pub returns-then-rests-clause-run : goal.returns-then-rests-clause-run
returns-then-rests-clause-run g c =
    still_runs (plan_of c.args.self.now) c.args.inputs.now c.show.new.pulses c.args.registers.now c.args.values.now (c.requires.still c.if-rests.true)
    (c.requires.given c.if-rests.true) (c.show.ensures ∙ ap (map (pulse_shown c.args.values.now)) c.deref.ensures.value)
