use Rattle.gos_lex.specs.Items.{IsJust}
use Rattle.gos_lex.specs.ItemTexts.{IsFixed}
use Rattle.gos_lex.proofs.SequenceLemmas.{misses_as}
use Rattle.gos_lex.proofs.PassedLemmas.{passed_item}
use Rattle.gos_gates.proofs.ShapeLemmas.{word_passed, word_missed}
use Rattle.gos_gates.proofs.item.word.Goals as goal

pub returns-in-Ok-clause-passed : goal.returns-in-Ok-clause-passed
returns-in-Ok-clause-passed c = λ rest.
    word_passed c.args.cursor.now c.word.new.self c.args.bytes.now rest
    (passed_item (IsJust c.args.bytes.now) c.args.cursor.now c.word.new.self c.args.bytes.now c.in-Ok.ensures.text c.in-Ok.ensures.passes.item c.in-Ok.ensures.passes)

pub returns-in-Err-clause-wrong : goal.returns-in-Err-clause-wrong
returns-in-Err-clause-wrong c = λ rest.
    word_missed c.args.cursor.now c.in-Err.at c.args.bytes.now rest
    (misses_as (IsJust c.args.bytes.now) (IsFixed c.args.bytes.now) c.args.cursor.now.text c.args.cursor.now.at c.in-Err.at (λ b is. (tt, tt, is)) (λ b is. is.2) c.in-Err.ensures.wrong)
