use Rattle.std.proofs.Common.{refl}
use Rattle.std.proofs.lemmas.Result.{err_from_is_err_and}
use Rattle.gos_witness.proofs.TraceLemmas.{trace_break, trace_over, trace_read}
use Rattle.gos_witness.proofs.BreakLemmas.{labels_of_ports}
use Rattle.gos_witness.proofs.trace.read_labels.Goals as goal

pub returns-in_err-labels-clause-fault : goal.returns-in_err-labels-clause-fault
returns-in_err-labels-clause-fault c =
    let start = c.new-cursor.ensures in
    let known = trace_break c.args.ports.now c.args.text.now c.new-cursor.result c.in_err-labels.field-0.0 start.text start.at c.in_err-labels.ensures.wrong in
    let p = err_from_is_err_and c.from_residual.result c.from_residual.ensures.1 in
    rw (p.1, p.2) known

pub returns-then-finished-clause-read : goal.returns-then-finished-clause-read
returns-then-finished-clause-read c =
    let start = c.new-cursor.ensures in
    trace_read c.args.ports.now c.args.text.now c.new-cursor.result c.all_labels.new.cursor c.in_ok-labels.labels.items start.text start.at c.in_ok-labels.ensures.passed (c.if-finished.ensures.0 refl)

pub returns-else-finished-clause-fault : goal.returns-else-finished-clause-fault
returns-else-finished-clause-fault c =
    let start = c.new-cursor.ensures in
    trace_over c.args.ports.now c.args.text.now c.new-cursor.result c.all_labels.new.cursor c.in_ok-labels.labels.items c.at-at.result start.text start.at c.in_ok-labels.ensures.passed (λ same. absurd (cc (c.if-finished.ensures.1 same))) c.at-at.ensures.at

pub returns-then-finished-clause-of_ports : goal.returns-then-finished-clause-of_ports
returns-then-finished-clause-of_ports c =
    labels_of_ports c.args.ports.now c.in_ok-labels.labels.items c.args.text.now
    (returns-then-finished-clause-read c)
