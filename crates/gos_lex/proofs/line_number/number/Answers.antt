use Rattle.std.proofs.Common.{arith, IsTrue, rules}
use Rattle.gos_lex.specs.Numerals.{is_numeral}
use Rattle.gos_lex.proofs.LineNumberLemmas.{too_great, whole_value}
use Rattle.gos_lex.proofs.line_number.number.Goals as goal

pub returns-in_err-value : goal.returns-in_err-value
returns-in_err-value c =
    rw c.from_residual.ensures
    (too_great c.args.word.now c.loop-digit.digit-index c.loop-digit.value (omega arith) c.loop-digit.invariant.0 c.in_err-value.ensures)

pub returns : goal.returns
returns c =
    let numeral : IsTrue (is_numeral c.args.word.now) = search rules in
    (numeral, whole_value c.args.word.now c.loop-digit.digit-index c.loop-digit.value (omega arith) c.loop-digit.invariant.0, c.loop-digit.invariant.1)
