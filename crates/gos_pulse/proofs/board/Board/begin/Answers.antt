use Rattle.std.proofs.Common.{rules, ◌≡◌, ◌++◌, List, length, reverse, replicate, refl, sym, ap, subst, ◌∙◌, arith}
use Rattle.std.specs.Vec.{with_items}
use Rattle.std.proofs.lemmas.List.{with_items_is}
use Rattle.gos_sim.specs.declared.pulse.Pulse.{Pulse}
use Rattle.gos_sim.specs.Cycle.{IsNextOutput}
use Rattle.gos_pulse.specs.Guarding.{Guards, outputs_of}
use Rattle.gos_pulse.specs.inner.Slots.{labels_of}
use Rattle.gos_pulse.proofs.BoardLemmas.{began, quiet}
use Rattle.gos_pulse.proofs.PortLemmas.{has_ports}
use Rattle.gos_pulse.proofs.ShownLemmas.{outputs_each}
use Rattle.gos_pulse.proofs.board.Board.begin.Goals as goal

pub peek-requires : goal.peek-requires
peek-requires c = ap length c.deref_mut.ensures.value ∙ c.requires.rests.1.outputs ∙ outputs_each c.args.sim.now.net c.requires.accepted

pub returns : goal.returns
returns c = λ past rests.
    let net = c.args.sim.now.net in
    let shown = c.peek.new.outputs in
    let outputs : (with_items c.args.self.now.outputs shown).items ≡ shown = with_items_is c.args.self.now.outputs shown (omega arith) in
    let inputs : c.fill.new.self.items ≡ replicate (length c.args.self.now.inputs.items) quiet = search rules in
    let each : length shown ≡ length (outputs_of net) = omega arith in
    let seen : c.deref.result.now ≡ shown = c.deref.ensures.value ∙ outputs in
    let guards = subst (λ (ps : List Pulse). Guards net (reverse (labels_of net.ports (outputs_of net) ps) ++ past) c.see_outputs.new.guard) seen (c.see_outputs.ensures net past (has_ports net c.requires.accepted) rests.guards) in
    record {
      next = subst (IsNextOutput c.args.sim.now) (sym outputs) c.peek.ensures;
      stands =
          began net past shown (length c.args.self.now.inputs.items) c.args.self.now
          (record { guard = c.see_outputs.new.guard; slots = c.args.self.now.slots; inputs = c.fill.new.self; outputs = with_items c.args.self.now.outputs shown })
          rests refl outputs each inputs rests.inputs guards;
    }
