use Rattle.std.proofs.Common.{refl}
use Rattle.std.proofs.lemmas.Result.{err_from_is_err_and}
use Rattle.gos_witness.proofs.TraceLemmas.{last_missed, pulse_missed, last_is, pulse_is}
use Rattle.gos_witness.proofs.entry.next_line.Goals as goal

pub returns-in_err-end-clause-wrong : goal.returns-in_err-end-clause-wrong
returns-in_err-end-clause-wrong c =
    let letter = c.if-begins_last.ensures.0 refl in
    let known = last_missed c.args.ports.now c.requires.ports c.args.from c.args.cursor.now c.in_err-end.field-0.0 c.requires.from letter.0 letter.1 c.in_err-end.ensures.wrong in
    let p = err_from_is_err_and c.from_residual.result c.from_residual.ensures.1 in
    rw (p.1, p.2) known

pub returns-then-begins_last-clause-is : goal.returns-then-begins_last-clause-is
returns-then-begins_last-clause-is c =
    (last_is c.args.ports.now c.args.from c.args.cursor.now c.last.new.cursor c.in_ok-end.end c.in_ok-end.ensures.passed).0

pub returns-then-begins_last-clause-passed : goal.returns-then-begins_last-clause-passed
returns-then-begins_last-clause-passed c =
    (last_is c.args.ports.now c.args.from c.args.cursor.now c.last.new.cursor c.in_ok-end.end c.in_ok-end.ensures.passed).1

pub returns-in_err-line-clause-wrong : goal.returns-in_err-line-clause-wrong
returns-in_err-line-clause-wrong c =
    let known = pulse_missed c.args.ports.now c.args.from c.args.cursor.now c.in_err-line.field-0.0 c.requires.from c.requires.within (λ both. absurd (cc (c.if-begins_last.ensures.1 both))) c.in_err-line.ensures.wrong in
    let p = err_from_is_err_and c.from_residual-in_err-line.result c.from_residual-in_err-line.ensures.1 in
    rw (p.1, p.2) known

pub returns-clause-is : goal.returns-clause-is
returns-clause-is c =
    (pulse_is c.args.ports.now c.args.from c.args.cursor.now c.pulse.new.cursor c.in_ok-line.line c.in_ok-line.ensures.passed).0

pub returns-clause-passed : goal.returns-clause-passed
returns-clause-passed c =
    (pulse_is c.args.ports.now c.args.from c.args.cursor.now c.pulse.new.cursor c.in_ok-line.line c.in_ok-line.ensures.passed).1
