use Rattle.std.proofs.Common.{ℕ, ◌<◌, ◌≤◌, ◌∙◌, ap, subst, sym, Option, arith}
use Rattle.std.specs.Option.{IfSome}
use Rattle.gos_lex.specs.inner.Digits.{digits_so_far}
use Rattle.gos_lex.proofs.DecimalLemmas.{number_passes, number_misses}
use Rattle.gos_lex.proofs.decimal.any_number.Goals as goal

pub returns-in-None-clause-wrong : goal.returns-in-None-clause-wrong
returns-in-None-clause-wrong c =
    let P : Option ℕ → Type 0 = λ far. IfSome far (λ v. v < c.args.low) in
    number_misses c.args.text.now c.args.at c.decimal_run-value.result.1 c.args.low c.args.high c.decimal_run-value.result.0 (omega arith) c.requires.range
    (subst P (sym c.in-None.is) tt) c.decimal_run-value.ensures.digits c.decimal_run-value.ensures.stops

pub returns-then-low-value-clause-passes : goal.returns-then-low-value-clause-passes
returns-then-low-value-clause-passes c =
    let P : Option ℕ → Type 0 = λ far. IfSome far (λ v. v ≤ c.args.high) in
    number_passes c.args.text.now c.args.at c.decimal_run-value.result.1 c.args.low c.args.high c.in-Some.value c.if-low-value.true
    (subst P c.in-Some.is c.decimal_run-value.ensures.within) (c.decimal_run-value.ensures.digits ∙ ap digits_so_far c.in-Some.is) c.decimal_run-value.ensures.stops

pub returns-else-low-value-clause-wrong : goal.returns-else-low-value-clause-wrong
returns-else-low-value-clause-wrong c =
    let P : Option ℕ → Type 0 = λ far. IfSome far (λ v. v < c.args.low) in
    number_misses c.args.text.now c.args.at c.decimal_run-value.result.1 c.args.low c.args.high c.decimal_run-value.result.0 (omega arith) c.requires.range
    (subst P (sym c.in-Some.is) c.if-low-value.false) c.decimal_run-value.ensures.digits c.decimal_run-value.ensures.stops
