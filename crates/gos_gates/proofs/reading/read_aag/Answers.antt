use Rattle.std.proofs.Common.{refl}
use Rattle.std.proofs.lemmas.Result.{err_from_is_err_and}
use Rattle.gos_gates.specs.declared.fault.AagFault.TheVariants as faults
use Rattle.gos_gates.specs.inner.Shapes.{End, whole_shape, lines_shape}
use Rattle.gos_gates.proofs.ShapeLemmas.{leads_on, breaks_off_on}
use Rattle.gos_gates.proofs.ReadLemmas.{all_passed, breaks_off, left_over}
use Rattle.gos_gates.proofs.reading.read_aag.Goals as goal

pub returns-in-Err-clause-fault : goal.returns-in-Err-clause-fault
returns-in-Err-clause-fault c =
    let start = c.new-cursor.ensures in
    breaks_off c.args.text.now c.new-cursor.result (faults.Form c.in-Err.at) start.text start.at c.in-Err.ensures.wrong

pub returns-in_err-aig-clause-fault : goal.returns-in_err-aig-clause-fault
returns-in_err-aig-clause-fault c =
    let start = c.new-cursor.ensures in
    let broken = breaks_off_on c.new-cursor.result c.first_line.new.cursor whole_shape (lines_shape c.in-Ok.header) c.in_err-aig.field-0.0 c.in-Ok.ensures.passed c.in_err-aig.ensures.wrong in
    let known = breaks_off c.args.text.now c.new-cursor.result c.in_err-aig.field-0.0 start.text start.at broken in
    let p = err_from_is_err_and c.from_residual.result c.from_residual.ensures.1 in
    rw (p.1, p.2) known

pub returns-then-finished-clause-read : goal.returns-then-finished-clause-read
returns-then-finished-clause-read c =
    let start = c.new-cursor.ensures in
    let a = c.in_ok-aig.aig in
    let whole = leads_on c.new-cursor.result c.first_line.new.cursor c.lines.new.cursor whole_shape (lines_shape c.in-Ok.header) (End a) c.in-Ok.ensures.passed c.in_ok-aig.ensures.passed in
    all_passed c.args.text.now c.new-cursor.result c.lines.new.cursor a start.text start.at whole (c.if-finished.ensures.0 refl)

pub returns-else-finished-clause-fault : goal.returns-else-finished-clause-fault
returns-else-finished-clause-fault c =
    let start = c.new-cursor.ensures in
    let a = c.in_ok-aig.aig in
    let whole = leads_on c.new-cursor.result c.first_line.new.cursor c.lines.new.cursor whole_shape (lines_shape c.in-Ok.header) (End a) c.in-Ok.ensures.passed c.in_ok-aig.ensures.passed in
    left_over c.args.text.now c.new-cursor.result c.lines.new.cursor a c.at-at.result start.text start.at whole (λ same. absurd (cc (c.if-finished.ensures.1 same))) c.at-at.ensures.at
