use Rattle.std.proofs.Common.{◌∷◌, [], ℕ, Option, false, subst, sym}
use Rattle.gos_lex.specs.ItemTexts.{Passed}
use Rattle.gos_witness.specs.inner.Parts.{step_text}
use Rattle.gos_witness.proofs.PathLemmas.{word_of_step, no_step}
use Rattle.gos_witness.proofs.path_text.later_step.Goals as goal

pub returns-in-Ok-clause-passed : goal.returns-in-Ok-clause-passed
returns-in-Ok-clause-passed c =
    let old = c.args.cursor.now in
    let new = c.one_of.new.cursor in
    let word = subst (Passed old new) (word_of_step false _ c.in-Ok.k (λ i. c.as_slice.ensures i ∷ c.as_slice-2.ensures i ∷ c.as_slice-3.ensures i ∷ c.as_slice-4.ensures i ∷ []) c.in-Ok.ensures.inside) c.in-Ok.ensures.passed in
    subst (λ (step : Option ℕ). Passed old new (step_text false step)) (sym c.step_at.ensures) word

pub returns-in-Err-clause-wrong : goal.returns-in-Err-clause-wrong
returns-in-Err-clause-wrong c =
    no_step false _ (λ i. c.as_slice.ensures i ∷ c.as_slice-2.ensures i ∷ c.as_slice-3.ensures i ∷ c.as_slice-4.ensures i ∷ []) c.args.cursor.now.text c.args.cursor.now.at c.in-Err.at c.in-Err.ensures.wrong
