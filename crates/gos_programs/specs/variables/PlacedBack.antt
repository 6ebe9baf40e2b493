-- A local variable in the place of an import: what the term with the location does comes from the term with the import.
--
-- Read first: Waits; LocalVariable of contexts. Where no request at the import waits for its answer, a term with a location has
-- no computation step and no output but those that the term with the import has, and the requests that this shows at the import.
use Rattle.std.specs.Prelude.{◌≡◌, ℕ, IsTrue, Some}
use Rattle.gos_types.specs.Types.{Var}
use Rattle.gos_model.specs.Terms.{Name, Term}
use Rattle.gos_model.specs.Typing.{import_type}
use Rattle.gos_model.specs.Stores.{Store}
use Rattle.gos_model.specs.Labels.{is_output}
use Rattle.gos_model.specs.Moves.{Program, Config, Running, Act, Computing, Showing, Move, Stalled}
use Rattle.gos_programs.specs.contexts.Renaming.{beside}
use Rattle.gos_programs.specs.contexts.LocalVariable.{placed, HasOthers, IsHome}
use Rattle.gos_programs.specs.variables.Waits.{HasNoWaitAt}

-- a computation step or an output: what a stalled program doesn't do
abbrev pub IsActive : Act → Type 0
IsActive Computing = Unit {0}
IsActive (Showing o) = IsTrue (is_output o)

-- Where the term with the location has such a move, the term with the import has one.
abbrev pub PlacedMovesBack : Type 0
PlacedMovesBack =
    (p q : Program) (y : Name) (r : ℕ → ℕ) (z w k : ℕ) (f s : Store) (m : Term) (a : Act) (d : Config)
    → import_type p.imports y ≡ Some (Var w) → HasOthers y p.imports q.imports → IsHome r f z w k → HasNoWaitAt y m
    → IsActive a → Move q a (Running (placed r y z m) (beside r s f)) d → (b : Act) × (e : Config) × IsActive b × Move p b (Running m s) e

-- So it can only wait where the term with the import can only wait.
abbrev pub PlacedWaits : Type 0
PlacedWaits =
    (p q : Program) (y : Name) (r : ℕ → ℕ) (z w k : ℕ) (f s : Store) (m : Term)
    → import_type p.imports y ≡ Some (Var w) → HasOthers y p.imports q.imports → IsHome r f z w k → HasNoWaitAt y m
    → Stalled p (Running m s) → Stalled q (Running (placed r y z m) (beside r s f))
