use Rattle.gos_plan.proofs.ItemLemmas.{number_misses, number_reads}
use Rattle.gos_plan.proofs.items.number.Goals as goal

pub returns-in-Err-clause-wrong : goal.returns-in-Err-clause-wrong
returns-in-Err-clause-wrong c =
    number_misses c.args.low c.args.high c.args.end c.args.cursor.now.text c.args.cursor.now.at c.in-Err.at c.in-Err.ensures.wrong

pub returns-in-Ok-clause-read : goal.returns-in-Ok-clause-read
returns-in-Ok-clause-read c =
    number_reads c.args.low c.args.high c.args.end c.args.cursor.now c.ended_number.new.self c.in-Ok.n c.in-Ok.ensures.range c.in-Ok.ensures.passed
