use Rattle.std.proofs.Common.{arith}
use Rattle.std.proofs.lemmas.Result.{err_from_is_err_and}
use Rattle.gos_plan.specs.declared.format.Format.{Format}
use Rattle.gos_plan.specs.Formats.{head_text}
use Rattle.gos_plan.specs.TextItems.{words, number_in}
use Rattle.gos_plan.proofs.TextLemmas.{first_fails, rest_fails, both_read}
use Rattle.gos_plan.proofs.WholeLemmas.{lawful_heads}
use Rattle.gos_plan.proofs.reading.weight.Goals as goal

pub returns-in_err-format-clause-wrong : goal.returns-in_err-format-clause-wrong
returns-in_err-format-clause-wrong c =
    let old = c.args.cursor.now in
    let known = first_fails (words Format head_text) (λ format. number_in 1 8192 10) (λ format is. (1, (omega arith, omega arith))) old.text old.at c.in_err-format.field-0.0 c.in_err-format.ensures.wrong in
    let p = err_from_is_err_and c.from_residual.result c.from_residual.ensures.1 in
    rw (p.1, p.2) known

pub returns-in_err-weight-clause-wrong : goal.returns-in_err-weight-clause-wrong
returns-in_err-weight-clause-wrong c =
    let known = rest_fails (words Format head_text) (λ format. number_in 1 8192 10) lawful_heads c.args.cursor.now c.head_word.new.cursor c.in_ok-format.format c.in_ok-format.ensures.read c.in_err-weight.field-0.0 c.in_err-weight.ensures.wrong in
    let p = err_from_is_err_and c.from_residual-in_err-weight.result c.from_residual-in_err-weight.ensures.1 in
    rw (p.1, p.2) known

pub returns-clause-read : goal.returns-clause-read
returns-clause-read c =
    both_read (words Format head_text) (λ format. number_in 1 8192 10) c.args.cursor.now c.head_word.new.cursor c.number.new.cursor c.in_ok-format.format c.in_ok-weight.weight c.in_ok-format.ensures.read c.in_ok-weight.ensures.read
