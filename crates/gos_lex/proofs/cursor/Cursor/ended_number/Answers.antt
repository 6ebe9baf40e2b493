use Rattle.std.proofs.Common.{◌≡◌, ◌++◌, ◌∷◌, [], drop, refl, sym, subst}
use Rattle.std.specs.Fmt.{decimal}
use Rattle.std.proofs.lemmas.Result.{err_from_is_err_and}
use Rattle.gos_lex.specs.Items.{TextAt, IsJust, Misses}
use Rattle.gos_lex.specs.Decimals.{IsDecimalIn}
use Rattle.gos_lex.specs.ItemTexts.{Passed, ended, IsNumberText}
use Rattle.gos_lex.proofs.NumberTextLemmas.{no_number, number_not_ended}
use Rattle.gos_lex.proofs.PassedLemmas.{passed_both, passed_item}
use Rattle.gos_lex.proofs.RestLemmas.{number_rest, number_stands}
use Rattle.gos_lex.proofs.cursor.Cursor.ended_number.Goals as goal

pub returns-in_err-value-clause-wrong : goal.returns-in_err-value-clause-wrong
returns-in_err-value-clause-wrong c =
    let old : TextAt = record { text = c.self.inside.text.now; at = c.self.inside.at } in
    let here = no_number c.args.low c.args.high c.args.end old.text old.at c.in_err-value.field-0.0 c.ranges.high.fits c.requires.no_digit c.in_err-value.ensures.wrong in
    let known = subst (λ (t : TextAt). Misses (IsNumberText c.args.low c.args.high c.args.end) t.text t.at c.in_err-value.field-0.0) c.self.view_is here in
    let p = err_from_is_err_and c.from_residual.result c.from_residual.ensures.1 in
    rw (p.1, p.2) known

pub returns-in_err-value-clause-stands : goal.returns-in_err-value-clause-stands
returns-in_err-value-clause-stands c n x above below left =
    let old : TextAt = record { text = c.self.inside.text.now; at = c.self.inside.at } in
    let here = no_number c.args.low c.args.high c.args.end old.text old.at c.in_err-value.field-0.0 c.ranges.high.fits c.requires.no_digit c.in_err-value.ensures.wrong in
    let rest = subst (λ (t : TextAt). drop t.at t.text ≡ decimal n ++ c.args.end ∷ x) (sym c.self.view_is) left in
    absurd (number_stands old.text old.at c.in_err-value.field-0.0 c.args.low c.args.high c.args.end n x here above below rest)

pub returns-in_err-self-inside-clause-wrong : goal.returns-in_err-self-inside-clause-wrong
returns-in_err-self-inside-clause-wrong c =
    let old : TextAt = record { text = c.self.inside.text.now; at = c.self.inside.at } in
    let digits = c.in_ok-value.ensures in
    let here = number_not_ended c.args.low c.args.high c.args.end old.text old.at c.in_ok-value.digits_end c.in_err-self-inside.field-0.0 c.in_ok-value.value c.ranges.high.fits c.requires.no_digit digits.range.0 digits.range.1 digits.value digits.passes c.in_err-self-inside.ensures.wrong in
    let known = subst (λ (t : TextAt). Misses (IsNumberText c.args.low c.args.high c.args.end) t.text t.at c.in_err-self-inside.field-0.0) c.self.view_is here in
    let p = err_from_is_err_and c.from_residual-in_err-self-inside.result c.from_residual-in_err-self-inside.ensures.1 in
    rw (p.1, p.2) known

pub returns-in_err-self-inside-clause-stands : goal.returns-in_err-self-inside-clause-stands
returns-in_err-self-inside-clause-stands c n x above below left =
    let old : TextAt = record { text = c.self.inside.text.now; at = c.self.inside.at } in
    let digits = c.in_ok-value.ensures in
    let here = number_not_ended c.args.low c.args.high c.args.end old.text old.at c.in_ok-value.digits_end c.in_err-self-inside.field-0.0 c.in_ok-value.value c.ranges.high.fits c.requires.no_digit digits.range.0 digits.range.1 digits.value digits.passes c.in_err-self-inside.ensures.wrong in
    let rest = subst (λ (t : TextAt). drop t.at t.text ≡ decimal n ++ c.args.end ∷ x) (sym c.self.view_is) left in
    absurd (number_stands old.text old.at c.in_err-self-inside.field-0.0 c.args.low c.args.high c.args.end n x here above below rest)

pub returns-clause-passed : goal.returns-clause-passed
returns-clause-passed c =
    let old : TextAt = record { text = c.self.inside.text.now; at = c.self.inside.at } in
    let mid : TextAt = record { text = c.self.inside.text.now; at = c.in_ok-value.digits_end } in
    let new : TextAt = record { text = c.self.inside.text.now; at = c.in_ok-self-inside.field-0 } in
    let digits = c.in_ok-value.ensures in
    let last = c.in_ok-self-inside.ensures.passes in
    let known = passed_both old mid new (decimal c.in_ok-value.value) (c.args.end ∷ [])
    (passed_item (IsDecimalIn c.args.low c.args.high) old mid (decimal c.in_ok-value.value) refl digits.value digits.passes)
    (passed_item (IsJust (c.args.end ∷ [])) mid new (c.args.end ∷ []) refl last.item last) in
    subst (λ (t : TextAt). Passed t new (ended c.args.end (decimal c.in_ok-value.value))) c.self.view_is known

pub returns-clause-stands : goal.returns-clause-stands
returns-clause-stands c n x above below left =
    let new : TextAt = record { text = c.self.inside.text.now; at = c.in_ok-self-inside.field-0 } in
    number_rest c.args.self.now new c.args.low c.args.high c.args.end c.in_ok-value.value n x c.ranges.high.fits c.requires.no_digit c.in_ok-value.ensures.range above below (returns-clause-passed c) left
