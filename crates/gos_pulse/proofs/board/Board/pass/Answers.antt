use Rattle.std.proofs.Common.{rules, ◌≡◌, ◌++◌, List, length, reverse, replicate, refl, sym, ap, subst, ◌∙◌, arith}
use Rattle.std.specs.Vec.{with_items}
use Rattle.std.proofs.lemmas.List.{length-map, length-replicate, with_items_is}
use Rattle.gos_sim.specs.declared.pulse.Pulse.{Pulse}
use Rattle.gos_sim.specs.Cycle.{pulse_shown}
use Rattle.gos_sim.specs.EventNets.{output_events}
use Rattle.gos_pulse.specs.Guarding.{Guards, outputs_of}
use Rattle.gos_pulse.specs.inner.Slots.{labels_of}
use Rattle.gos_pulse.proofs.BoardLemmas.{began, quiet}
use Rattle.gos_pulse.proofs.PortLemmas.{has_ports}
use Rattle.gos_pulse.proofs.ShownLemmas.{inputs_each, outputs_each}
use Rattle.gos_pulse.proofs.board.Board.pass.Goals as goal

pub cycle-requires-clause-inputs : goal.cycle-requires-clause-inputs
cycle-requires-clause-inputs c =
    let count = length c.args.self.now.inputs.items in
    let inputs : c.fill.new.self.items ≡ replicate count quiet = search rules in
    ap length (c.deref.ensures.value ∙ inputs) ∙ length-replicate count quiet ∙ c.requires.rests.1.inputs ∙ inputs_each c.args.sim.now.net c.requires.accepted

pub cycle-requires-clause-outputs : goal.cycle-requires-clause-outputs
cycle-requires-clause-outputs c = ap length c.deref_mut.ensures.value ∙ c.requires.rests.1.outputs ∙ outputs_each c.args.sim.now.net c.requires.accepted

pub returns-clause-seen : goal.returns-clause-seen
returns-clause-seen c = λ past rests.
    let net = c.args.sim.now.net in
    let shown = c.cycle.new.outputs in
    let cycle = c.cycle.ensures.cycle in
    let outputs : (with_items c.args.self.now.outputs shown).items ≡ shown = with_items_is c.args.self.now.outputs shown (omega arith) in
    let inputs : c.fill.new.self.items ≡ replicate (length c.args.self.now.inputs.items) quiet = search rules in
    let each : length shown ≡ length (outputs_of net) =
    ap length cycle.outputs ∙ length-map (output_events net) (pulse_shown cycle.values) ∙ sym (outputs_each net c.requires.accepted) in
    let seen : c.deref-2.result.now ≡ shown = c.deref-2.ensures.value ∙ outputs in
    let guards = subst (λ (ps : List Pulse). Guards net (reverse (labels_of net.ports (outputs_of net) ps) ++ past) c.see_outputs.new.guard) seen (c.see_outputs.ensures net past (has_ports net c.requires.accepted) rests.guards) in
    began net past shown (length c.args.self.now.inputs.items) c.args.self.now
    (record { guard = c.see_outputs.new.guard; slots = c.args.self.now.slots; inputs = c.fill.new.self; outputs = with_items c.args.self.now.outputs shown })
    rests refl outputs each inputs rests.inputs guards
