use Rattle.std.proofs.lemmas.Result.{err_from_is_err_and}
use Rattle.gos_plan.proofs.TypeLemmas.{word_fails}
use Rattle.gos_plan.proofs.types.type_word.Goals as goal

pub returns-in_err-word-clause-wrong : goal.returns-in_err-word-clause-wrong
returns-in_err-word-clause-wrong c =
    let old = c.args.cursor.now in
    let known = word_fails c.args.before old.text old.at c.in_err-word.field-0.0 c.in_err-word.ensures.wrong in
    let p = err_from_is_err_and c.from_residual.result c.from_residual.ensures.1 in
    rw (p.1, p.2) known
