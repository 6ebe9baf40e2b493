use Rattle.std.proofs.Common.{arith}
use Rattle.std.proofs.lemmas.Option.{slice_get-get_or}
use Rattle.gos_tidy.proofs.PartLemmas.{numbers_step}
use Rattle.gos_tidy.proofs.drop.numbered.Goals as goal

pub loop-n-preserved : goal.loop-n-preserved
loop-n-preserved c =
    numbers_step c.args.marks.now c.loop-n.n _ c.loop-n.numbers.numbers.items c.loop-n.numbers.places.items _ _ _ c.loop-n.invariant
    (slice_get-get_or c.args.marks.now c.loop-n.n _ c.loop-n-test.true) (omega (arith, c.loop-n.numbers.places.ok.0))
    c.in_ok-add.ensures.numbers c.in_ok-add.ensures.places
