use Rattle.std.proofs.Common.{◌≤◌, ℕ, subst, arith}
use Rattle.gos_lex.specs.Items.{Misses}
use Rattle.gos_lex.specs.ItemTexts.{IsNumberText}
use Rattle.gos_gates.proofs.ShapeLemmas.{number_passed, number_missed}
use Rattle.gos_gates.proofs.item.number.Goals as goal

pub returns-in-Ok-clause-passed : goal.returns-in-Ok-clause-passed
returns-in-Ok-clause-passed c = λ rest.
    let inside : c.in-Ok.n ≤ c.args.high = omega (arith, c.in-Ok.ensures.range.1, c.from.ensures) in
    number_passed c.args.cursor.now c.ended_number.new.self c.args.high c.args.end c.in-Ok.n rest (omega (arith, c.ranges.high.fits)) c.requires.no_digit inside c.in-Ok.ensures.passed

pub returns-in-Err-clause-wrong : goal.returns-in-Err-clause-wrong
returns-in-Err-clause-wrong c = λ rest.
    number_missed c.args.cursor.now c.in-Err.at c.args.high c.args.end rest
    (subst (λ (high : ℕ). Misses (IsNumberText 0 high c.args.end) c.args.cursor.now.text c.args.cursor.now.at c.in-Err.at) c.from.ensures c.in-Err.ensures.wrong)
