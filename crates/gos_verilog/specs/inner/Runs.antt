-- Items one behind the other, each by a context of its own.
--
-- Read first: ItemTexts of gos_lex. Between the reader and its lemmas.
use Rattle.std.specs.Prelude.{ℕ, List, [], ◌∷◌, ◌++◌}
use Rattle.gos_lex.specs.ItemTexts.{IsTextOf}

-- a value for each context
abbrev pub Fit : (C V : Type 0) → (C → V → Type 0) → List C → List V → Type 0
Fit C V Is [] [] = Unit {0}
Fit C V Is [] (v ∷ vs) = ⊥
Fit C V Is (c ∷ cs) [] = ⊥
Fit C V Is (c ∷ cs) (v ∷ vs) = Is c v × Fit C V Is cs vs

-- their texts one behind the other
abbrev pub run_text : (C V : Type 0) → (C → V → List ℕ) → List C → List V → List ℕ
run_text C V text [] vs = []
run_text C V text (c ∷ cs) [] = []
run_text C V text (c ∷ cs) (v ∷ vs) = text c v ++ run_text C V text cs vs

abbrev pub IsRun : (C V : Type 0) → (C → V → Type 0) → (C → V → List ℕ) → List C → List ℕ → Type 0
IsRun C V Is text cs = IsTextOf (List V) (Fit C V Is cs) (run_text C V text cs)
