use Rattle.std.proofs.Common.{◌∷◌, [], arith, ◌≤◌}
use Rattle.std.specs.Fmt.{decimal}
use Rattle.gos_lex.specs.Items.{IsJust}
use Rattle.gos_lex.specs.Decimals.{IsDecimalIn}
use Rattle.gos_lex.proofs.PassedLemmas.{passed_both, passed_item}
use Rattle.gos_lex.proofs.NumberTextLemmas.{count_misses, count_not_ended, number_under}
use Rattle.gos_netlist.proofs.sections.count.Goals as goal

pub returns-in-Err-clause-wrong : goal.returns-in-Err-clause-wrong
returns-in-Err-clause-wrong c = count_misses c.args.limit c.args.cursor.now.text c.args.cursor.now.at c.in-Err.at c.in-Err.ensures.wrong

pub returns-in-Ok-word-clause-passed : goal.returns-in-Ok-word-clause-passed
returns-in-Ok-word-clause-passed c =
    let old = c.args.cursor.now in
    let mid = c.number.new.self in
    let new = c.word.new.self in
    passed_both old mid new (decimal c.in-Ok.n) (10 ∷ []) (passed_item (IsDecimalIn 0 4294967295) old mid (decimal c.in-Ok.n) c.in-Ok.ensures.text c.in-Ok.ensures.value c.in-Ok.ensures.passes)
    (passed_item (IsJust (10 ∷ [])) mid new (10 ∷ []) c.in-Ok-word.ensures.text c.in-Ok-word.ensures.passes.item c.in-Ok-word.ensures.passes)

pub returns-in-Ok-word-clause-under : goal.returns-in-Ok-word-clause-under
returns-in-Ok-word-clause-under c =
    let old = c.args.cursor.now in
    let under : c.in-Ok.n ≤ c.args.limit = omega (arith, c.if-n-limit.false) in
    number_under c.args.limit c.in-Ok.n old.text old.at c.number.new.self.at under c.in-Ok.ensures.range.1 c.in-Ok.ensures.value c.in-Ok.ensures.passes

pub returns-in-Err-word-clause-wrong : goal.returns-in-Err-word-clause-wrong
returns-in-Err-word-clause-wrong c =
    let under : c.in-Ok.n ≤ c.args.limit = omega (arith, c.if-n-limit.false) in
    count_not_ended c.args.limit c.in-Ok.n c.args.cursor.now c.number.new.self c.in-Err-word.at under c.in-Ok.ensures.range.1 c.in-Ok.ensures.text c.in-Ok.ensures.value c.in-Ok.ensures.passes c.in-Err-word.ensures.wrong
