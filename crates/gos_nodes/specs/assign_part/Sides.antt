-- What N does in `M := N`, and the whole run of `x := N`, where x is an import of a variable.
--
-- Read first: Tables; Plugged and Widening of gos_programs. While N runs nothing else of the assignment is reached.
use Rattle.std.specs.Prelude.{◌≡◌, ℕ, List, [], ◌∷◌, ◌++◌, Some}
use Rattle.gos_types.specs.Types.{Var}
use Rattle.gos_model.specs.Terms.{Name, Term, Lit, Import, Assign}
use Rattle.gos_model.specs.Typing.{import_type}
use Rattle.gos_model.specs.Stores.{Store}
use Rattle.gos_model.specs.Labels.{given, taken}
use Rattle.gos_model.specs.Moves.{Program, Idle, Running, Act, Computing, Showing, Unfoldings, Moves, Stalled}
use Rattle.gos_programs.specs.contexts.Plugged.{AreInner}
use Rattle.gos_programs.specs.contexts.Widening.{AreAmong, Knows}

-- its moves by itself, after its request and before its answer, are moves of the assignment
abbrev pub RightSideMoves : Type 0
RightSideMoves =
    (p g : Program) (acts : List Act) (m n t : Term) (s u : Store)
    → AreAmong p.imports g.imports → AreInner acts → Moves p acts (Running n s) (Running t u)
    → Moves g acts (Running (Assign m n) s) (Running (Assign m t) u)

-- where it can only wait by itself, the assignment can only wait
abbrev pub RightSideWaits : Type 0
RightSideWaits =
    (p g : Program) (m n : Term) (s : Store)
    → AreAmong p.imports g.imports → Knows p.imports n → Stalled p (Running n s) → Stalled g (Running (Assign m n) s)

-- where it comes to a number, the assignment writes that, waits, and answers: nothing else is shown
abbrev pub WriteRuns : Type 0
WriteRuns =
    (p g : Program) (acts : List Act) (x : Name) (n t : Term) (s u : Store) (v w k : ℕ)
    → AreAmong p.imports g.imports → import_type g.imports x ≡ Some (Var w) → AreInner acts
    → Moves p acts (Running n s) (Running t u) → Unfoldings k t (Lit v w)
    → Moves g (acts ++ Computing ∷ Showing (taken x 2 v) ∷ Showing (taken x 3 0) ∷ Showing (given 1 0) ∷ [])
    (Running (Assign (Import x) n) s) Idle
