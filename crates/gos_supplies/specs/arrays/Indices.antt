-- What the index of an access does: what it does by itself, within the access, as often as the array asks for it.
--
-- Read first: Accesses; Plugged and Widening of gos_programs.
use Rattle.std.specs.Prelude.{◌≡◌, ℕ, List, [], ◌∷◌, ◌++◌}
use Rattle.gos_types.specs.Types.{Exp}
use Rattle.gos_model.specs.Terms.{Name, Term, Lit}
use Rattle.gos_model.specs.Accesses.{IsArrayImport}
use Rattle.gos_model.specs.Typing.{Typed}
use Rattle.gos_model.specs.Stores.{Store}
use Rattle.gos_model.specs.Labels.{given, taken}
use Rattle.gos_model.specs.Moves.{Program, Config, Idle, Running, Act, Showing, Moves, labels, Stalled}
use Rattle.gos_programs.specs.contexts.Contexts.{plug}
use Rattle.gos_programs.specs.contexts.Plugged.{AreInner}
use Rattle.gos_programs.specs.contexts.Widening.{AreAmong, Knows}
use Rattle.gos_supplies.specs.arrays.Accesses.{Access, waiting, index_of}

-- its moves by itself, after its request and before its answer, are moves of the access
abbrev pub IndexMoves : Type 0
IndexMoves =
    (p g : Program) (a : Access) (x : Name) (n : Term) (acts : List Act) (m t : Term) (s u : Store)
    → AreAmong p.imports g.imports → AreInner acts → Moves p acts (Running m s) (Running t u)
    → Moves g acts (Running (plug (index_of a x n) m) s) (Running (plug (index_of a x n) t) u)

-- where it can only wait by itself the access can only wait, and so it can while the array may ask for the index
abbrev pub IndexWaits : Type 0
IndexWaits =
    (p g : Program) (a : Access) (x : Name) (n m : Term) (s : Store)
    → AreAmong p.imports g.imports → Knows p.imports m → Stalled p (Running m s) → Stalled g (Running (plug (index_of a x n) m) s)

abbrev pub AccessWaits : Type 0
AccessWaits = (g : Program) (x : Name) (n j : Term) (a : Access) (s : Store) → Stalled g (Running (waiting a x n j) s)

-- Where it answers with a number, the access shows that number, and the array may ask again. The store is empty then.
abbrev pub IndexEnds : Type 0
IndexEnds =
    (p g : Program) (a : Access) (x : Name) (i w : ℕ) (n : Term) (acts : List Act) (m : Term) (s : Store) (v : ℕ) (more : List Act) (c : Config)
    → AreAmong p.imports g.imports → IsArrayImport g.imports x i w → Typed p.imports [] p.body (Exp i) → Moves p acts Idle (Running m s)
    → Moves p more (Running m s) c → labels more ≡ given 1 v ∷ []
    → (last : List Act) × (labels last ≡ []) × Moves g (last ++ Showing (taken x 0 v) ∷ []) (Running (plug (index_of a x n) m) s)
    (Running (waiting a x n (Lit v i)) [])
