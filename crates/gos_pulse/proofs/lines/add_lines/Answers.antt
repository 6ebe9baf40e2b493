use Rattle.std.proofs.Common.{rules, ◌≡◌, ◌++◌, ◌∙◌, Bool, true, false, true≢false, get_or, sym, subst, arith}
use Rattle.std.specs.Bool.{beq}
use Rattle.std.proofs.lemmas.Option.{slice_get-get_or}
use Rattle.gos_pulse.specs.declared.slots.Slot.{Slot}
use Rattle.gos_netlist.specs.Events.{events_of}
use Rattle.gos_pulse.specs.Guarding.{events_way}
use Rattle.gos_pulse.specs.inner.Lines.{AddsLines, line_if}
use Rattle.gos_pulse.proofs.LineLemmas.{adds_all, adds_more, adds_none, adds_same, pulse_within}
use Rattle.gos_pulse.proofs.lines.add_lines.Goals as goal
use Rattle.gos_pulse.proofs.lines.add_lines.Goals.{then-slot-input+in_ok-add_line, else-slot-input}

pub returns-then-are_off : goal.returns-then-are_off
returns-then-are_off c = λ net has.
    adds_none net c.args.cycle (events_way c.args.input (events_of net)) c.args.pulses.now c.args.lines.now.items (sym c.are_off.ensures ∙ c.if-are_off.true)

pub pulse_at-requires : goal.pulse_at-requires
pulse_at-requires c =
    let none : Slot = record { input = false; place = 0 } in
    let slot : Slot = get_or c.args.slots.now c.loop-event.event none in
    let same : slot.input ≡ c.args.input = search rules in
    pulse_within c.requires.0 c.args.cycle c.args.input c.args.slots.now c.args.pulses.now c.loop-event.event slot c.args.lines.now.items c.args.lines.now.items c.requires.1
    (slice_get-get_or c.args.slots.now c.loop-event.event none c.loop-event-test.true) same

pub loop-event-preserved : goal.loop-event-preserved
loop-event-preserved c = λ net has.
    let none : Slot = record { input = false; place = 0 } in
    let i = c.loop-event.event in
    let slot : Slot = get_or c.args.slots.now i none in
    let here = slice_get-get_or c.args.slots.now i none c.loop-event-test.true in
    let old = c.loop-event.lines.items in
    let so_far = c.loop-event.invariant net has in
    elim c.if-slot-input.branch [
      | then-slot-input+in_ok-add_line w ↦
          let same : slot.input ≡ c.args.input = search rules in
          let pulse = w.pulse_at.result in
          let pushed : c.if-slot-input.lines.items ≡ old ++ line_if c.args.cycle i pulse = search rules in
          subst (AddsLines net c.args.cycle _ c.args.lines.now.items) (sym pushed)
          (adds_more net c.args.cycle c.args.input c.args.slots.now c.args.pulses.now i slot c.args.lines.now.items old has here pulse same w.pulse_at.ensures so_far)
      | else-slot-input w ↦
          let kept : c.if-slot-input.lines.items ≡ old = search rules in
          subst (AddsLines net c.args.cycle _ c.args.lines.now.items) (sym kept)
          (adds_same net c.args.cycle c.args.input c.args.slots.now c.args.pulses.now i slot c.args.lines.now.items old has here (differs slot.input c.args.input w.if-slot-input.false) so_far)
    ]
  where
    differs : (a b : Bool) → beq a b ≡ false → a ≡ b → ⊥
    differs true true h same = true≢false h
    differs true false h same = true≢false same
    differs false true h same = true≢false (sym same)
    differs false false h same = true≢false h

pub returns : goal.returns
returns c = λ net has.
    adds_all net c.args.cycle c.args.input c.args.slots.now c.args.pulses.now c.loop-event.event c.args.lines.now.items c.loop-event.lines.items has (omega arith) (c.loop-event.invariant net has)
