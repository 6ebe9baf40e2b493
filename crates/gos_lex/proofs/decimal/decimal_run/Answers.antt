use Rattle.std.proofs.Common.{◌∙◌, arith}
use Rattle.gos_lex.specs.Decimals.{IsDecimalIn}
use Rattle.gos_lex.specs.inner.Digits.{digits_so_far}
use Rattle.gos_lex.proofs.PlaceLemmas.{slice_nothing}
use Rattle.gos_lex.proofs.ItemLemmas.{part_more, stops_here}
use Rattle.gos_lex.proofs.DecimalLemmas.{begins_nothing}
use Rattle.gos_lex.proofs.decimal.decimal_run.Goals as goal

pub loop-i-init : goal.loop-i-init
loop-i-init c = (slice_nothing c.args.text.now c.args.at, begins_nothing c.args.low c.args.high c.requires.range, tt)

pub returns-in-None-clause-stops : goal.returns-in-None-clause-stops
returns-in-None-clause-stops c =
    stops_here (IsDecimalIn c.args.low c.args.high) c.args.text.now c.args.at c.loop-i.i (digits_so_far c.loop-i.value) (omega arith) (omega arith)
    c.loop-i.invariant.0 c.loop-i.invariant.1 c.in-None.ensures.none

pub loop-i-preserved : goal.loop-i-preserved
loop-i-preserved c = (
  part_more c.args.text.now c.args.at c.loop-i.i (digits_so_far c.loop-i.value) (omega arith) (omega arith) c.loop-i.invariant.0 ∙ c.in-Some.ensures.digits,
  c.in-Some.ensures.begins,
  c.in-Some.ensures.within,
)
