use Rattle.std.proofs.Common.{rules, ◌≡◌, ◌<◌, ◌≤◌, ◌+◌, ◌++◌, ◌∷◌, [], ◌-◌, ℕ, Bool, false, true, cond, length, get_or, arith, ap, sym, subst, ◌∙◌}
use Rattle.std.proofs.lemmas.Option.{slice_get-get_or}
use Rattle.std.proofs.lemmas.List.{length-take-le}
use Rattle.gos_netlist.specs.declared.event.Event.{Event}
use Rattle.gos_pulse.proofs.SlotLemmas.{slots_more, SlotsTo, inputs_more, all_slots}
use Rattle.gos_pulse.proofs.slots.slots.Goals as goal

pub loop-event-preserved : goal.loop-event-preserved
loop-event-preserved c =
    let n = c.loop-event.event-index in
    let events = c.args.events.now in
    let zero : Event = record { port = 0; place = 0; input = false; bits = 0 } in
    let event : Event = get_or events n zero in
    let within : n < length events = search rules in
    let here = slice_get-get_or events n zero within in
    let each = length-take-le n events (omega (arith, within)) in
    let input : c.slot_after.result.input ≡ event.input = search rules in
    let before : c.len.result ≡ n = omega (arith, c.len.ensures, c.loop-event.invariant.slots.each) in
    let place : c.slot_after.result.place ≡ cond event.input c.loop-event.inputs (n - c.loop-event.inputs) =
    subst (λ (m : ℕ). c.slot_after.result.place ≡ cond event.input c.loop-event.inputs (m - c.loop-event.inputs)) before c.slot_after.ensures.place in
    let more : c.from-inputs.result ≡ cond event.input 1 0 = search rules in
    let pushed : c.push.new.self.items ≡ c.loop-event.slots.items ++ c.slot_after.result ∷ [] = search rules in
    let small : c.from-inputs.result ≤ 1 = subst (λ (m : ℕ). m ≤ 1) (sym more) (bit_small event.input) in
    record {
      slots =
          subst (SlotsTo events (n + 1)) (sym pushed)
          (slots_more events n c.loop-event.inputs event here c.loop-event.invariant.count c.loop-event.slots.items c.slot_after.result c.loop-event.invariant.slots each input place);
      some = omega (arith, small, c.loop-event.invariant.some);
      count = ap (λ (m : ℕ). c.loop-event.inputs + m) more ∙ inputs_more events n c.loop-event.inputs event here c.loop-event.invariant.count;
    }
  where
    bit_small : (b : Bool) → cond b 1 0 ≤ 1
    bit_small true = omega arith
    bit_small false = omega arith

pub returns : goal.returns
returns c = all_slots c.args.events.now c.loop-event.event-index c.loop-event.slots.items (omega arith) c.loop-event.invariant.slots
