-- Small lists of labels for which no lines are found, and ones for which there are some.
--
-- Read first: Find, SmallLines.
use Rattle.std.specs.Prelude.{ℕ, [], ◌∷◌}
use Rattle.gos_model.specs.Labels.{given}
use Rattle.gos_witness.specs.SmallLines.{skips, run_and_done}
use Rattle.gos_witness.specs.Find.{IsNotTrace, IsSpent, HasLarge, TakesSteps}

-- an answer is no first label, and a second request comes only behind the answer
abbrev pub DoneIsNotFirst : Type 0
DoneIsNotFirst = IsNotTrace skips (given 1 0 ∷ []) 0

abbrev pub RunIsNotSecond : Type 0
RunIsNotSecond = IsNotTrace skips (given 0 0 ∷ given 0 0 ∷ []) 1

-- and it is the second label that can't come, not the first
abbrev pub FirstIsRight : Type 0
FirstIsRight = IsNotTrace skips (given 0 0 ∷ given 0 0 ∷ []) 0 → ⊥

-- of a trace no label is refused: each comes, after no steps, and no term is too large
abbrev pub SkipIsNotRefused : Type 0
SkipIsNotRefused = (k : ℕ) → IsNotTrace skips run_and_done k → ⊥

abbrev pub SkipTakesNoSteps : Type 0
SkipTakesNoSteps = TakesSteps skips run_and_done 0 × (TakesSteps skips run_and_done 1 → ⊥)

abbrev pub SkipIsNotSpent : Type 0
SkipIsNotSpent = (k : ℕ) → IsSpent skips run_and_done k → ⊥

abbrev pub SkipIsNotLarge : Type 0
SkipIsNotLarge = (n : ℕ) → HasLarge skips run_and_done n → ⊥
