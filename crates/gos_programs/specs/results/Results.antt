-- What a program ends with is of its type.
--
-- Read first: HasTypes; Moves of gos_model.
use Rattle.std.specs.Prelude.{◌≡◌, ◌⊎◌, ℕ, ◌^◌, ◌<◌, List, []}
use Rattle.gos_types.specs.Types.{Type', Com, Exp}
use Rattle.gos_model.specs.Terms.{Term, Skip, Lit}
use Rattle.gos_model.specs.Typing.{Typed}
use Rattle.gos_model.specs.Stores.{Store}
use Rattle.gos_model.specs.Steps.{IsValue}
use Rattle.gos_model.specs.Labels.{given}
use Rattle.gos_model.specs.Moves.{Program, Idle, Running, Act, Showing, Unfoldings, Move, Moves}
use Rattle.gos_programs.specs.results.HasTypes.{RunsAs}

-- the value of this type with number k: of a command `skip`, with 0; of an expression a literal of its width that fits it
abbrev pub IsResult : Type' → Term → ℕ → Type 0
IsResult t v k = ((t ≡ Com) × (v ≡ Skip) × (k ≡ 0)) ⊎ ((w : ℕ) × (t ≡ Exp w) × (v ≡ Lit k w) × (k < 2 ^ w))

-- What a source becomes in a run has its type.
abbrev pub RunsKeepTypes : Type 0
RunsKeepTypes =
    (p : Program) (ty : Type') (acts : List Act) (m : Term) (s : Store)
    → Typed p.imports [] p.body ty → Moves p acts Idle (Running m s) → RunsAs p.imports m s ty

-- So each value that it becomes, also by unfolding, is one of its type.
abbrev pub ResultsAreTyped : Type 0
ResultsAreTyped =
    (p : Program) (ty : Type') (acts : List Act) (m v : Term) (s : Store) (n : ℕ)
    → Typed p.imports [] p.body ty → Moves p acts Idle (Running m s) → Unfoldings n m v → IsValue v → (k : ℕ) × IsResult ty v k

-- What it answers is the number of that value.
abbrev pub AnswersAreTyped : Type 0
AnswersAreTyped =
    (p : Program) (ty : Type') (acts : List Act) (m : Term) (s : Store) (k : ℕ)
    → Typed p.imports [] p.body ty → Moves p acts Idle (Running m s) → Move p (Showing (given 1 k)) (Running m s) Idle
    → (n : ℕ) × (v : Term) × Unfoldings n m v × IsResult ty v k
