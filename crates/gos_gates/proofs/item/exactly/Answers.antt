use Rattle.std.proofs.Common.{◌≡◌, ℕ, subst, arith}
use Rattle.std.specs.Fmt.{decimal}
use Rattle.gos_lex.specs.Items.{Misses}
use Rattle.gos_lex.specs.ItemTexts.{Passed, ended, IsNumberText}
use Rattle.gos_gates.proofs.ShapeLemmas.{word_passed, exactly_missed}
use Rattle.gos_gates.proofs.item.exactly.Goals as goal

pub returns-in-Ok-clause-passed : goal.returns-in-Ok-clause-passed
returns-in-Ok-clause-passed c = λ rest.
    let n : ℕ = c.in-Ok.field-0 in
    let same : n ≡ c.args.number = omega (arith, c.in-Ok.ensures.range.0, c.in-Ok.ensures.range.1, c.from-exact.ensures) in
    word_passed c.args.cursor.now c.ended_number.new.self (ended c.args.end (decimal c.args.number)) rest
    (subst (λ (m : ℕ). Passed c.args.cursor.now c.ended_number.new.self (ended c.args.end (decimal m))) same c.in-Ok.ensures.passed)

pub returns-in-Err-clause-wrong : goal.returns-in-Err-clause-wrong
returns-in-Err-clause-wrong c = λ rest.
    exactly_missed c.args.cursor.now c.in-Err.at c.args.number c.args.end rest
    (subst (λ (m : ℕ). Misses (IsNumberText m m c.args.end) c.args.cursor.now.text c.args.cursor.now.at c.in-Err.at) c.from-exact.ensures c.in-Err.ensures.wrong)
