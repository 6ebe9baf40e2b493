use Rattle.std.proofs.Common.{arith}
use Rattle.gos_lex.proofs.DecimalLemmas.{plain_passes}
use Rattle.gos_lex.proofs.decimal.number_end.Goals as goal

pub returns-in-Some-clause-passes : goal.returns-in-Some-clause-passes
returns-in-Some-clause-passes c =
    plain_passes c.args.text.now c.args.at c.in-Some.end c.args.low c.args.high c.in-Some.value (omega arith) c.in-Some.ensures.end.0 c.in-Some.ensures.end.1
    c.in-Some.ensures.value c.in-Some.ensures.whole c.if-low-value.true c.if-value-high.true
