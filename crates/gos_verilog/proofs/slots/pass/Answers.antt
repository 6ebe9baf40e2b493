use Rattle.gos_verilog.proofs.RestLemmas.{word_rest, word_stands}
use Rattle.gos_verilog.proofs.HeadLemmas.{passed_word}
use Rattle.gos_verilog.proofs.slots.pass.Goals as goal

pub returns-in_err-word-clause-stands : goal.returns-in_err-word-clause-stands
returns-in_err-word-clause-stands c x left =
    let old = c.args.cursor.now in
    absurd (word_stands old.text old.at c.in_err-word.field-0.0 c.args.bytes.now x c.in_err-word.ensures.wrong left)

pub returns-clause-passed : goal.returns-clause-passed
returns-clause-passed c = passed_word c.args.cursor.now c.word.new.self c.args.bytes.now c.in_ok-word.ensures.text c.in_ok-word.ensures.passes

pub returns-clause-stands : goal.returns-clause-stands
returns-clause-stands c x left =
    let passed = passed_word c.args.cursor.now c.word.new.self c.args.bytes.now c.in_ok-word.ensures.text c.in_ok-word.ensures.passes in
    word_rest c.args.cursor.now c.word.new.self c.args.bytes.now x passed left
