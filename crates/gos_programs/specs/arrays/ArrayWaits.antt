-- A local array in the place of an import: where the term with the import can only wait, so can the term with the location.
--
-- Read first: LocalArray; HasTypes of results. An access that doesn't wait yet shows a request, and one that has its index the number of
-- it; so neither stands in a term that can only wait.
use Rattle.std.specs.Prelude.{ℕ, List, []}
use Rattle.gos_types.specs.Types.{Type'}
use Rattle.gos_model.specs.Terms.{Name, Term}
use Rattle.gos_model.specs.Stores.{Store}
use Rattle.gos_model.specs.Accesses.{IsArrayImport}
use Rattle.gos_model.specs.Moves.{Program, Running, Stalled}
use Rattle.gos_programs.specs.contexts.Renaming.{beside}
use Rattle.gos_programs.specs.contexts.LocalVariable.{HasOthers}
use Rattle.gos_programs.specs.results.HasTypes.{widths_of, HasType}
use Rattle.gos_programs.specs.arrays.Stages.{Stage, Clear, Begun, Asked, Told, StandsAt}
use Rattle.gos_programs.specs.arrays.LocalArray.{arrayed, IsArrayHome}

-- a stage at which the array's surroundings have answered all that they were asked: no access waits, or one for its own index
abbrev pub IsAnswered : Stage → Type 0
IsAnswered Clear = Unit {0}
IsAnswered (Begun o) = ⊥
IsAnswered (Asked o) = Unit {0}
IsAnswered (Told o k) = ⊥

-- The term has its type, so an index has as many bits as the array's type says.
abbrev pub ArrayedWaits : Type 0
ArrayedWaits =
    (p q : Program) (y : Name) (r : ℕ → ℕ) (z i w : ℕ) (ks : List ℕ) (f s d : Store) (m : Term) (st : Stage) (t : Type')
    → IsArrayImport p.imports y i w → HasOthers y p.imports q.imports → IsArrayHome r f z w ks → IsAnswered st → StandsAt y st m
    → HasType (widths_of d) p.imports [] m t → Stalled p (Running m s) → Stalled q (Running (arrayed r y z m) (beside r s f))
