use Rattle.std.proofs.Common.{ℕ, Option, Some, subst, sym, ◌∙◌}
use Rattle.std.specs.Prelude.{IfErr}
use Rattle.std.proofs.lemmas.Result.{IfErr-weaker}
use Rattle.gos_lex.specs.Items.{Misses}
use Rattle.gos_lex.specs.ItemTexts.{IsNumberText}
use Rattle.gos_witness.specs.inner.TraceParts.{IsValueText}
use Rattle.gos_witness.proofs.EventLemmas.{no_value}
use Rattle.gos_witness.proofs.entry.value.Goals as goal

pub returns-in-Some-clause-wrong : goal.returns-in-Some-clause-wrong
returns-in-Some-clause-wrong c =
    let w : ℕ = c.in-Some.width in
    let old = c.args.cursor.now in
    let high : ℕ = c.greatest.result in
    subst (λ (width : Option ℕ). IfErr c.ended_number.result (Misses (IsValueText width) old.text old.at)) (sym (sym c.value_width.ensures ∙ c.in-Some.is))
    (IfErr-weaker c.ended_number.result (Misses (IsNumberText 0 high 10) old.text old.at) (Misses (IsValueText (Some w)) old.text old.at)
    (λ place misses. no_value w high old.text old.at place c.greatest.ensures misses) c.ended_number.ensures.wrong)
