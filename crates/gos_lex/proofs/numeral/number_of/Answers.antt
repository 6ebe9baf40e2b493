use Rattle.std.proofs.Common.{arith}
use Rattle.gos_lex.proofs.NumeralLemmas.{too_great}
use Rattle.gos_lex.proofs.numeral.number_of.Goals as goal

pub returns-in_err-value : goal.returns-in_err-value
returns-in_err-value c =
    rw c.from_residual.ensures
    (too_great c.args.bytes.now c.loop-b.b-index c.loop-b.value (omega arith) c.loop-b.invariant.0 c.in_err-value.ensures)
