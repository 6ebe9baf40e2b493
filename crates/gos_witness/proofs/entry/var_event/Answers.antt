use Rattle.std.proofs.Common.{[], ◌∷◌, ℕ, List, get_or, subst}
use Rattle.gos_lex.specs.Items.{Misses}
use Rattle.gos_lex.specs.ItemTexts.{IsAmong, Passed}
use Rattle.gos_witness.proofs.entry.var_event.Goals as goal

pub returns-in-Ok-clause-passed : goal.returns-in-Ok-clause-passed
returns-in-Ok-clause-passed c =
    subst (λ (table : List (List ℕ)). Passed c.args.cursor.now c.one_of.new.cursor (get_or table c.in-Ok.place [])) (λ i. c.as_slice.ensures i ∷ c.as_slice-2.ensures i ∷ c.as_slice-3.ensures i ∷ c.as_slice-4.ensures i ∷ []) c.in-Ok.ensures.passed

pub returns-in-Err-clause-wrong : goal.returns-in-Err-clause-wrong
returns-in-Err-clause-wrong c =
    subst (λ (table : List (List ℕ)). Misses (IsAmong table) c.args.cursor.now.text c.args.cursor.now.at c.in-Err.at) (λ i. c.as_slice.ensures i ∷ c.as_slice-2.ensures i ∷ c.as_slice-3.ensures i ∷ c.as_slice-4.ensures i ∷ []) c.in-Err.ensures.wrong
