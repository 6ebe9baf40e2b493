use Rattle.std.proofs.Common.{arith}
use Rattle.gos_lex.proofs.ItemLemmas.{word_misses}
use Rattle.gos_lex.proofs.cursor.word_end.Goals as goal
use Rattle.gos_lex.proofs.cursor.word_end.Goals.{then-at-i-via-then-at-i, then-at-i-via-else-at-i+then-text-at}

pub returns-then-at-i-clause-wrong : goal.returns-then-at-i-clause-wrong
returns-then-at-i-clause-wrong c =
    elim c.then-at-i.branch [
      | then-at-i-via-then-at-i w ↦
          word_misses c.args.text.now c.args.at c.args.bytes.now c.loop-i.i (omega arith) c.loop-i.invariant.0 c.loop-i.invariant.1 (λ some. absurd (omega arith))
      | then-at-i-via-else-at-i+then-text-at w ↦
          word_misses c.args.text.now c.args.at c.args.bytes.now c.loop-i.i (omega arith) c.loop-i.invariant.0 c.loop-i.invariant.1 (λ some. w.if-text-at.true)
    ]
