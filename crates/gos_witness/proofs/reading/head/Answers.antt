use Rattle.std.proofs.lemmas.Result.{err_from_is_err_and}
use Rattle.gos_lex.specs.Items.{IsJust}
use Rattle.gos_lex.proofs.PassedLemmas.{passed_item}
use Rattle.gos_witness.proofs.MovesLemmas.{head, head_passed, no_head, count_passed, no_count}
use Rattle.gos_witness.proofs.reading.head.Goals as goal

pub returns-in_err-word-clause-wrong : goal.returns-in_err-word-clause-wrong
returns-in_err-word-clause-wrong c =
    let known = no_head c.args.cursor.now c.in_err-word.field-0.0 c.in_err-word.ensures.wrong in
    let p = err_from_is_err_and c.from_residual.result c.from_residual.ensures.1 in
    rw (p.1, p.2) known

pub returns-in_err-count-clause-wrong : goal.returns-in_err-count-clause-wrong
returns-in_err-count-clause-wrong c =
    let old = c.args.cursor.now in
    let mid = c.word.new.self in
    let far = head_passed old mid (passed_item (IsJust head) old mid head c.in_ok-word.ensures.text c.in_ok-word.ensures.passes.item c.in_ok-word.ensures.passes) in
    let known = no_count old mid c.in_err-count.field-0.0 far c.in_err-count.ensures.wrong in
    let p = err_from_is_err_and c.from_residual-in_err-count.result c.from_residual-in_err-count.ensures.1 in
    rw (p.1, p.2) known

pub returns-clause-passed : goal.returns-clause-passed
returns-clause-passed c =
    let old = c.args.cursor.now in
    let mid = c.word.new.self in
    let far = head_passed old mid (passed_item (IsJust head) old mid head c.in_ok-word.ensures.text c.in_ok-word.ensures.passes.item c.in_ok-word.ensures.passes) in
    count_passed old mid c.ended_number.new.self c.in_ok-count.count far c.in_ok-count.ensures.range.1 c.in_ok-count.ensures.passed
