use Rattle.std.proofs.Common.{rules, ◌≡◌, ◌<◌, ◌++◌, ◌∷◌, [], Bool, true, false, cond, ap, sym, ◌∙◌, length, take, get_or}
use Rattle.gos_netlist.specs.declared.event.Event as seen
use Rattle.gos_pulse.specs.Guarding.{goes, half_of, halves_of}
use Rattle.gos_pulse.proofs.GuardLemmas.{halves_more}
use Rattle.gos_pulse.proofs.guard.halves.Goals as goal
use Rattle.gos_pulse.proofs.guard.halves.Goals.{then-goes+in_ok-push, else-goes}

pub loop-event-preserved : goal.loop-event-preserved
loop-event-preserved c =
    let zero : seen.Event = record { port = 0; place = 0; input = false; bits = 0 } in
    let event : seen.Event = get_or c.args.events.now c.loop-event.event-index zero in
    let within : c.loop-event.event-index < length c.args.events.now = search rules in
    let more = halves_more c.args.inputs c.args.events.now c.loop-event.event-index zero within in
    let chosen = λ (b : Bool). cond b (halves_of c.args.inputs (take c.loop-event.event-index c.args.events.now) ++ half_of event ∷ []) (halves_of c.args.inputs (take c.loop-event.event-index c.args.events.now)) in
    elim c.if-goes.branch [
      | then-goes+in_ok-push w ↦
          let its_way : goes c.args.inputs event ≡ true = sym c.goes.ensures ∙ w.if-goes.true in
          let pushed : c.if-goes.halves.items ≡ c.loop-event.halves.items ++ half_of event ∷ [] = search rules in
          pushed ∙ (λ j. c.loop-event.invariant j ++ half_of event ∷ []) ∙ sym (more ∙ ap chosen its_way)
      | else-goes w ↦
          let its_way : goes c.args.inputs event ≡ false = sym c.goes.ensures ∙ w.if-goes.false in
          let same : c.if-goes.halves.items ≡ c.loop-event.halves.items = search rules in
          same ∙ c.loop-event.invariant ∙ sym (more ∙ ap chosen its_way)
    ]
