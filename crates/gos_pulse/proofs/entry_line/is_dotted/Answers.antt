use Rattle.std.proofs.Common.{◌<◌, arith, length, sym, true≢false}
use Rattle.gos_pulse.proofs.DotLemmas.{dotted_at, dotted_from}
use Rattle.gos_pulse.proofs.entry_line.is_dotted.Goals as goal

pub returns-then-dot-word : goal.returns-then-dot-word
returns-then-dot-word c = (
  λ wrong. absurd (true≢false (sym wrong)),
  λ dotted.
      let within : c.dot_of-dot.result < length c.args.word.now = (dotted_at c.args.word.now c.dot_of-dot.result c.dot_of-dot.ensures dotted).0 in
      absurd (omega (arith, within)),
)

pub returns : goal.returns
returns c = (
  λ named. dotted_from c.args.word.now c.dot_of-dot.result c.dot_of-dot.ensures (omega arith) (c.has_names.ensures.0 named),
  λ dotted. c.has_names.ensures.1 (dotted_at c.args.word.now c.dot_of-dot.result c.dot_of-dot.ensures dotted).1,
)
