use Rattle.std.proofs.Common.{arith}
use Rattle.gos_lex.proofs.PlaceLemmas.{slice_cons}
use Rattle.gos_lex.proofs.GapLemmas.{skipped_here, skipped_all}
use Rattle.gos_lex.proofs.gap.gap_end.Goals as goal

pub returns-in-None : goal.returns-in-None
returns-in-None c =
    skipped_here c.args.text.now c.args.at c.loop-i.i c.loop-i.in_comment (omega arith) (omega arith) c.loop-i.invariant
    c.in-None.ensures.none.0 c.in-None.ensures.none.1 c.in-None.ensures.none.2

pub loop-i-preserved : goal.loop-i-preserved
loop-i-preserved c = λ end after within gap.
    c.loop-i.invariant end (omega arith) within
    (rw (slice_cons c.args.text.now c.loop-i.i end (omega arith) within) (c.in-Some.ensures.some _ _ gap))

pub returns : goal.returns
returns c = skipped_all c.args.text.now c.args.at c.loop-i.i c.loop-i.in_comment c.requires (omega arith) c.loop-i.invariant
