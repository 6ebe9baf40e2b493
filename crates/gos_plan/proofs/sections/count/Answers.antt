use Rattle.std.proofs.Common.{arith, ◌≤◌}
use Rattle.gos_plan.proofs.SectionLemmas.{no_count, not_ended, count_reads}
use Rattle.gos_plan.proofs.sections.count.Goals as goal

pub returns-in-Err-clause-wrong : goal.returns-in-Err-clause-wrong
returns-in-Err-clause-wrong c = no_count c.args.limit c.args.cursor.now.text c.args.cursor.now.at c.in-Err.at c.in-Err.ensures.wrong

pub returns-in-Ok-word-clause-read : goal.returns-in-Ok-word-clause-read
returns-in-Ok-word-clause-read c =
    let under : c.in-Ok.n ≤ c.args.limit = omega (arith, c.if-n-limit.false) in
    count_reads c.args.limit c.in-Ok.n c.args.cursor.now c.number.new.self c.word.new.self under c.in-Ok.ensures.range.1 c.in-Ok.ensures.text c.in-Ok-word.ensures.text c.in-Ok.ensures.value c.in-Ok.ensures.passes c.in-Ok-word.ensures.passes

pub returns-in-Err-word-clause-wrong : goal.returns-in-Err-word-clause-wrong
returns-in-Err-word-clause-wrong c =
    let under : c.in-Ok.n ≤ c.args.limit = omega (arith, c.if-n-limit.false) in
    not_ended c.args.limit c.in-Ok.n c.args.cursor.now c.number.new.self c.in-Err-word.at under c.in-Ok.ensures.range.1 c.in-Ok.ensures.text c.in-Ok.ensures.value c.in-Ok.ensures.passes c.in-Err-word.ensures.wrong
