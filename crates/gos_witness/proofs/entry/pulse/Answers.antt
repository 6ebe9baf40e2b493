use Rattle.std.proofs.Common.{ℕ}
use Rattle.std.proofs.lemmas.Result.{err_from_is_err_and}
use Rattle.gos_witness.proofs.TraceLemmas.{cycle_passed, no_cycle, label_passed, no_label}
use Rattle.gos_witness.proofs.entry.pulse.Goals as goal

pub returns-in_err-cycle-clause-wrong : goal.returns-in_err-cycle-clause-wrong
returns-in_err-cycle-clause-wrong c =
    let known = no_cycle c.args.ports.now c.requires.ports c.args.from c.args.cursor.now c.in_err-cycle.field-0.0 c.in_err-cycle.ensures.wrong in
    let p = err_from_is_err_and c.from_residual.result c.from_residual.ensures.1 in
    rw (p.1, p.2) known

pub returns-in_err-label-clause-wrong : goal.returns-in_err-label-clause-wrong
returns-in_err-label-clause-wrong c =
    let old = c.args.cursor.now in
    let mid = c.ended_number.new.self in
    let cycle : ℕ = c.in_ok-cycle.cycle in
    let far = cycle_passed c.args.ports.now c.requires.ports c.args.from cycle old mid c.in_ok-cycle.ensures.range.0 c.in_ok-cycle.ensures.range.1 c.in_ok-cycle.ensures.passed in
    let known = no_label c.args.ports.now c.requires.ports.named c.requires.ports c.args.from cycle old mid c.in_err-label.field-0.0 far c.in_err-label.ensures.wrong in
    let p = err_from_is_err_and c.from_residual-in_err-label.result c.from_residual-in_err-label.ensures.1 in
    rw (p.1, p.2) known

pub returns-clause-passed : goal.returns-clause-passed
returns-clause-passed c =
    let old = c.args.cursor.now in
    let mid = c.ended_number.new.self in
    let cycle : ℕ = c.in_ok-cycle.cycle in
    let far = cycle_passed c.args.ports.now c.requires.ports c.args.from cycle old mid c.in_ok-cycle.ensures.range.0 c.in_ok-cycle.ensures.range.1 c.in_ok-cycle.ensures.passed in
    label_passed c.args.ports.now c.requires.ports.named c.requires.ports c.args.from cycle c.in_ok-label.label old mid c.label_line.new.cursor far c.in_ok-label.ensures.passed
