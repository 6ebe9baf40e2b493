use Rattle.std.proofs.Common.{List, ℕ, ◌≡◌, ◌<◌, All, length, subst, sym}
use Rattle.gos_sim.specs.Cycle.{IsNextOutput, Simulator}
use Rattle.gos_sim.specs.inner.Past.{settlings_of}
use Rattle.gos_sim.specs.inner.Places.{by_net}
use Rattle.gos_sim.specs.declared.event_nets.EventNets.{EventNets}
use Rattle.gos_sim.specs.EventNets.{OnNets}
use Rattle.gos_sim.proofs.MachineLemmas.{machine_output, machine_runnable}
use Rattle.gos_sim.proofs.word_sim.WordSim.peek.Goals as goal

pub show-requires-clause-nets : goal.show-requires-clause-nets
show-requires-clause-nets g c =
    let parts = c.self.inside in
    let each : parts.machine.count ≡ length parts.registers = sym c.self.invariant.state.registers_each in
    subst (λ (es : List EventNets). All (OnNets (λ a. a < length parts.registers)) es) (sym c.deref.ensures.value)
    (subst (λ (n : ℕ). All (OnNets (λ a. a < n)) parts.machine.outputs.items) each (machine_runnable parts.net parts.machine c.self.invariant.machine).outputs)

pub returns : goal.returns
returns g c =
    let parts = c.self.inside in
    subst (λ (s : Simulator). IsNextOutput s c.show.new.pulses) c.self.view_is
    (machine_output parts.net parts.machine c.self.invariant.machine parts.registers
    (settlings_of parts.past (by_net parts.machine.places.items parts.values) (by_net parts.machine.places.items parts.before)) c.show.new.pulses
    (rw (c.deref.ensures.value) at c.show.ensures))
