use Rattle.std.specs.Prelude.{codes}
use Rattle.std.proofs.lemmas.Result.{err_from_is_err_and}
use Rattle.gos_lex.specs.Items.{IsJust}
use Rattle.gos_lex.proofs.PassedLemmas.{passed_item}
use Rattle.gos_witness.proofs.TraceLemmas.{word_passed, no_word, number_passed, no_number_here}
use Rattle.gos_witness.proofs.entry.last.Goals as goal

pub returns-in_err-word-clause-wrong : goal.returns-in_err-word-clause-wrong
returns-in_err-word-clause-wrong c =
    let known = no_word c.args.from c.args.cursor.now c.in_err-word.field-0.0 c.requires c.in_err-word.ensures.wrong in
    let p = err_from_is_err_and c.from_residual.result c.from_residual.ensures.1 in
    rw (p.1, p.2) known

pub returns-in_err-cycles-clause-wrong : goal.returns-in_err-cycles-clause-wrong
returns-in_err-cycles-clause-wrong c =
    let old = c.args.cursor.now in
    let mid = c.word.new.self in
    let far = word_passed c.args.from old mid c.requires (passed_item (IsJust (codes "cycles ")) old mid (codes "cycles ") c.in_ok-word.ensures.text c.in_ok-word.ensures.passes.item c.in_ok-word.ensures.passes) in
    let known = no_number_here c.args.from old mid c.in_err-cycles.field-0.0 far c.in_err-cycles.ensures.wrong in
    let p = err_from_is_err_and c.from_residual-in_err-cycles.result c.from_residual-in_err-cycles.ensures.1 in
    rw (p.1, p.2) known

pub returns-clause-passed : goal.returns-clause-passed
returns-clause-passed c =
    let old = c.args.cursor.now in
    let mid = c.word.new.self in
    let far = word_passed c.args.from old mid c.requires (passed_item (IsJust (codes "cycles ")) old mid (codes "cycles ") c.in_ok-word.ensures.text c.in_ok-word.ensures.passes.item c.in_ok-word.ensures.passes) in
    number_passed c.args.from c.in_ok-cycles.cycles old mid c.ended_number.new.self far c.in_ok-cycles.ensures.range c.in_ok-cycles.ensures.passed
