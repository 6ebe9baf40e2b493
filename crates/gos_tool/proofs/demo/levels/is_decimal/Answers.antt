use Rattle.std.proofs.Common.{◌≡◌, ◌∙◌, ◌+◌, ◌-◌, ℕ, [], ◌∷◌, ap, sym, arith}
use Rattle.std.specs.Fmt.{decimal}
use Rattle.gos_tool.proofs.lemmas.demo.PlainLemmas.{decides, one_digit, two_digits}
use Rattle.gos_tool.proofs.demo.levels.is_decimal.Goals as goal

pub returns-then-number-lt10 : goal.returns-then-number-lt10
returns-then-number-lt10 c =
    decides c.args.word.now c.as_slice.result.now (decimal c.args.number) c.eq.result c.eq.ensures
    (c.as_slice.ensures ∙ sym (one_digit c.args.number c.if-number-lt10.true))

pub returns-else-number-lt10 : goal.returns-else-number-lt10
returns-else-number-lt10 c =
    let n = c.args.number in
    let large = c.if-number-lt10.false in
    let last : 48 + (n - 10) ≡ 38 + n = omega (arith, large) in
    decides c.args.word.now c.as_slice-else-number-lt10.result.now (decimal n) c.eq-else-number-lt10.result c.eq-else-number-lt10.ensures
    (c.as_slice-else-number-lt10.ensures ∙ (ap (λ (d : ℕ). 49 ∷ d ∷ []) last ∙ sym (two_digits n large c.requires.1)))
