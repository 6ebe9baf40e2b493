use Rattle.std.proofs.Common.{refl}
use Rattle.std.proofs.lemmas.Result.{err_from_is_err_and}
use Rattle.gos_lex.specs.Items.{IsJust}
use Rattle.gos_lex.proofs.PassedLemmas.{passed_item}
use Rattle.gos_witness.specs.inner.Parts.{foot}
use Rattle.gos_witness.proofs.MovesLemmas.{behind_count, foot_passed, no_foot, moves_break, moves_fault, moves_over, moves_read}
use Rattle.gos_witness.proofs.reading.read_moves.Goals as goal

pub returns-in-Err-clause-fault : goal.returns-in-Err-clause-fault
returns-in-Err-clause-fault c =
    let start = c.new-cursor.ensures in
    moves_break c.args.text.now c.new-cursor.result c.in-Err.at start.text start.at c.in-Err.ensures.wrong

pub returns-in_err-lines-clause-fault : goal.returns-in_err-lines-clause-fault
returns-in_err-lines-clause-fault c =
    let start = c.new-cursor.ensures in
    let known = moves_fault c.args.text.now c.new-cursor.result c.head.new.cursor c.in-Ok.count c.in_err-lines.field-0.0 start.text start.at c.in-Ok.ensures.passed c.in_err-lines.ensures.wrong in
    let p = err_from_is_err_and c.from_residual.result c.from_residual.ensures.1 in
    rw (p.1, p.2) known

pub returns-in-Err-word-clause-fault : goal.returns-in-Err-word-clause-fault
returns-in-Err-word-clause-fault c =
    let start = c.new-cursor.ensures in
    let old = c.new-cursor.result in
    let far = behind_count old c.head.new.cursor c.lines.new.cursor c.in-Ok.count c.in_ok-lines.lines.items c.in-Ok.ensures.passed c.in_ok-lines.ensures.passed in
    moves_break c.args.text.now old c.in-Err-word.at start.text start.at (no_foot old c.lines.new.cursor c.in_ok-lines.lines.items c.in-Err-word.at far c.in-Err-word.ensures.wrong)

pub returns-then-finished-clause-read : goal.returns-then-finished-clause-read
returns-then-finished-clause-read c =
    let start = c.new-cursor.ensures in
    let old = c.new-cursor.result in
    let mid = c.lines.new.cursor in
    let new = c.word.new.self in
    let far = behind_count old c.head.new.cursor mid c.in-Ok.count c.in_ok-lines.lines.items c.in-Ok.ensures.passed c.in_ok-lines.ensures.passed in
    let passed = passed_item (IsJust foot) mid new foot c.in-Ok-word.ensures.text c.in-Ok-word.ensures.passes.item c.in-Ok-word.ensures.passes in
    moves_read c.args.text.now old new c.in_ok-lines.lines.items start.text start.at (foot_passed old mid new c.in_ok-lines.lines.items far passed) (c.if-finished.ensures.0 refl)

pub returns-else-finished-clause-fault : goal.returns-else-finished-clause-fault
returns-else-finished-clause-fault c =
    let start = c.new-cursor.ensures in
    let old = c.new-cursor.result in
    let mid = c.lines.new.cursor in
    let new = c.word.new.self in
    let far = behind_count old c.head.new.cursor mid c.in-Ok.count c.in_ok-lines.lines.items c.in-Ok.ensures.passed c.in_ok-lines.ensures.passed in
    let passed = passed_item (IsJust foot) mid new foot c.in-Ok-word.ensures.text c.in-Ok-word.ensures.passes.item c.in-Ok-word.ensures.passes in
    moves_over c.args.text.now old new c.in_ok-lines.lines.items c.at-at.result start.text start.at (foot_passed old mid new c.in_ok-lines.lines.items far passed) (λ same. absurd (cc (c.if-finished.ensures.1 same))) c.at-at.ensures.at
