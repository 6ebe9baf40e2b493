use Rattle.std.proofs.Common.{List, subst}
use Rattle.gos_sim.specs.declared.event_nets.EventNets.{EventNets}
use Rattle.gos_sim.specs.declared.program.Latch.{Latch}
use Rattle.gos_sim.specs.Cycle.{GivesAll}
use Rattle.gos_sim.specs.inner.Running.{AreLoaded, KeepsOthers}
use Rattle.gos_sim.proofs.machine.Machine.settle.Goals as goal

pub returns-clause-settles : goal.returns-clause-settles
returns-clause-settles g c =
    let held = c.args.registers.now in
    let first = c.give.new.values in
    let loaded = c.load.new.values in
    let values = c.evaluate.new.values in
    record {
      first = first;
      loaded = loaded;
      pulses = subst (λ (es : List EventNets). GivesAll es c.args.inputs.now first) c.deref.ensures.value c.give.ensures.given;
      registers = subst (λ (ls : List Latch). AreLoaded ls held loaded) c.deref-2.ensures.value c.load.ensures.loaded;
      others = subst (λ (ls : List Latch). KeepsOthers ls first loaded) c.deref-2.ensures.value c.load.ensures.others;
      evaluated = c.evaluate.ensures.shown;
      sources = c.evaluate.ensures.others;
    }
