-- Moves of a term beside other locations of the store, and in a context.
--
-- Read first: Renaming, Plugged. A program that runs by itself takes its locations from a store of its own. Where it
-- runs within another one, these are renamed, and the store has others besides. A renaming is chosen once for a run:
-- a location that is new by itself is new here too, since the renaming is injective and the others are none of its.
use Rattle.std.specs.Prelude.{◌≡◌, ℕ, List, [], ◌∷◌}
use Rattle.gos_types.specs.Types.{Type'}
use Rattle.gos_model.specs.Terms.{Term}
use Rattle.gos_model.specs.Typing.{Imports, Typed}
use Rattle.gos_model.specs.Stores.{Store}
use Rattle.gos_model.specs.Steps.{IsValue}
use Rattle.gos_model.specs.Labels.{given}
use Rattle.gos_model.specs.Moves.{Program, Idle, Running, Act, Showing, Acts, Unfoldings, Move, Moves, Stalled}
use Rattle.gos_programs.specs.contexts.Contexts.{Context, plug, IsAlone}
use Rattle.gos_programs.specs.contexts.Plugged.{AreInner}
use Rattle.gos_programs.specs.contexts.Renaming.{renamed, renamed_store, IsInjective, IsFreeOf, beside}

-- a source has no locations
abbrev pub SourcesHaveNoLocations : Type 0
SourcesHaveNoLocations =
    (r : ℕ → ℕ) (i : Imports) (g : List Type') (m : Term) (t : Type') → Typed i g m t → renamed r m ≡ m

-- and neither has a value
abbrev pub ValuesHaveNoLocations : Type 0
ValuesHaveNoLocations = (r : ℕ → ℕ) (v : Term) → IsValue v → renamed r v ≡ v

-- unfoldings of a renamed term, both ways
abbrev pub UnfoldingsRenamed : Type 0
UnfoldingsRenamed = (r : ℕ → ℕ) (n : ℕ) (m t : Term) → Unfoldings n m t → Unfoldings n (renamed r m) (renamed r t)

abbrev pub UnfoldingsOfRenamed : Type 0
UnfoldingsOfRenamed =
    (r : ℕ → ℕ) (n : ℕ) (m v : Term) → Unfoldings n (renamed r m) v → (t : Term) × (v ≡ renamed r t) × Unfoldings n m t

-- a computation step or a label
abbrev pub ActsRenamed : Type 0
ActsRenamed =
    (r : ℕ → ℕ) (i : Imports) (a : Act) (s u : Store) (m t : Term)
    → IsInjective r → Acts i a s u m t → Acts i a (renamed_store r s) (renamed_store r u) (renamed r m) (renamed r t)

abbrev pub ActsBeside : Type 0
ActsBeside =
    (r : ℕ → ℕ) (f : Store) (i : Imports) (a : Act) (s u : Store) (m t : Term)
    → IsInjective r → IsFreeOf r f → Acts i a s u m t → Acts i a (beside r s f) (beside r u f) (renamed r m) (renamed r t)

-- a move, alone and in a context
abbrev pub MoveBeside : Type 0
MoveBeside =
    (p q : Program) (r : ℕ → ℕ) (f : Store) (a : Act) (s u : Store) (m t : Term)
    → p.imports ≡ q.imports → IsInjective r → IsFreeOf r f → Move p a (Running m s) (Running t u)
    → Move q a (Running (renamed r m) (beside r s f)) (Running (renamed r t) (beside r u f))

abbrev pub MoveWithin : Type 0
MoveWithin =
    (p q : Program) (c : Context) (r : ℕ → ℕ) (f : Store) (a : Act) (s u : Store) (m t : Term)
    → p.imports ≡ q.imports → IsInjective r → IsFreeOf r f → Move p a (Running m s) (Running t u)
    → Move q a (Running (plug c (renamed r m)) (beside r s f)) (Running (plug c (renamed r t)) (beside r u f))

-- moves
abbrev pub MovesWithin : Type 0
MovesWithin =
    (p q : Program) (c : Context) (r : ℕ → ℕ) (f : Store) (acts : List Act) (s u : Store) (m t : Term)
    → p.imports ≡ q.imports → IsInjective r → IsFreeOf r f → AreInner acts → Moves p acts (Running m s) (Running t u)
    → Moves q acts (Running (plug c (renamed r m)) (beside r s f)) (Running (plug c (renamed r t)) (beside r u f))

-- A run of a source from its request on, within another program. At a value the store is as it was.
abbrev pub RunsWithin : Type 0
RunsWithin =
    (p q : Program) (c : Context) (r : ℕ → ℕ) (f : Store) (acts : List Act) (u : Store) (t : Term) (ty : Type')
    → p.imports ≡ q.imports → IsInjective r → IsFreeOf r f → AreInner acts → Typed p.imports [] p.body ty
    → Moves p (Showing (given 0 0) ∷ acts) Idle (Running t u)
    → Moves q acts (Running (plug c p.body) f) (Running (plug c (renamed r t)) (beside r u f))

abbrev pub WholeRunsWithin : Type 0
WholeRunsWithin =
    (p q : Program) (c : Context) (f : Store) (acts : List Act) (u : Store) (v : Term) (ty : Type')
    → p.imports ≡ q.imports → AreInner acts → Typed p.imports [] p.body ty → IsValue v
    → Moves p (Showing (given 0 0) ∷ acts) Idle (Running v u)
    → Moves q acts (Running (plug c p.body) f) (Running (plug c v) f)

-- Where a term can only wait, it does so beside other locations, and in a context.
abbrev pub WaitsBeside : Type 0
WaitsBeside =
    (p q : Program) (r : ℕ → ℕ) (f : Store) (s : Store) (m : Term)
    → p.imports ≡ q.imports → IsInjective r → IsFreeOf r f → Stalled p (Running m s) → Stalled q (Running (renamed r m) (beside r s f))

abbrev pub WaitsBesideWithin : Type 0
WaitsBesideWithin =
    (p q : Program) (c : Context) (r : ℕ → ℕ) (f : Store) (s : Store) (m : Term)
    → p.imports ≡ q.imports → IsAlone c → IsInjective r → IsFreeOf r f → Stalled p (Running m s)
    → Stalled q (Running (plug c (renamed r m)) (beside r s f))
