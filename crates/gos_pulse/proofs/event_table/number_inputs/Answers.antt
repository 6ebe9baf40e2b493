use Rattle.std.proofs.Common.{◌≡◌, ◌<◌, ◌+◌, arith, length, subst, sym}
use Rattle.std.proofs.lemmas.Option.{slice_get-get_or}
use Rattle.gos_pulse.specs.inner.EventTable.{IsTableOf}
use Rattle.gos_lex.specs.declared.table.NameTable.{NameTable}
use Rattle.gos_pulse.proofs.TableLemmas.{table_passes, table_grows}
use Rattle.gos_pulse.proofs.event_table.number_inputs.Goals as goal
use Rattle.gos_pulse.proofs.event_table.number_inputs.Goals.{then-event+in_ok-name+in_ok-add, else-event}

pub loop-number-preserved : goal.loop-number-preserved
loop-number-preserved c =
    let within : c.loop-number.number < length c.args.events.now = omega arith in
    elim c.if-event.branch [
      | then-event+in_ok-name+in_ok-add w ↦
          subst (λ (table : NameTable). IsTableOf c.args.ports.now c.args.events.now (c.loop-number.number + 1) table) (sym w.numbers-is)
          (table_grows c.args.ports.now c.args.events.now c.loop-number.numbers _ c.loop-number.number _ w.in_ok-name.name.items
          (slice_get-get_or c.args.events.now c.loop-number.number _ within) w.if-event.true w.in_ok-name.ensures w.in_ok-add.ensures c.loop-number.invariant)
      | else-event w ↦
          subst (λ (table : NameTable). IsTableOf c.args.ports.now c.args.events.now (c.loop-number.number + 1) table) (sym w.numbers-is)
          (table_passes c.args.ports.now c.args.events.now c.loop-number.numbers c.loop-number.number _
          (slice_get-get_or c.args.events.now c.loop-number.number _ within) w.if-event.false c.loop-number.invariant)
    ]

pub returns : goal.returns
returns c =
    let end : c.loop-number.number ≡ length c.args.events.now = omega (arith, c.loop-number.auto.number-end, c.loop-number-test.false) in
    subst (λ n. IsTableOf c.args.ports.now c.args.events.now n c.loop-number.numbers) end c.loop-number.invariant
