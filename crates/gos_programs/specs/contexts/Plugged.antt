-- What a term does in a context: all that it does by itself.
--
-- Read first: Contexts; Moves of gos_model. A context changes neither the store nor what is shown. So the moves of a
-- program, from after its request to before its answer, are moves of a program that has its term at a reached place.
use Rattle.std.specs.Prelude.{◌≡◌, ◌≢◌, ℕ, List, [], ◌∷◌}
use Rattle.gos_model.specs.Terms.{Term}
use Rattle.gos_model.specs.Typing.{Imports}
use Rattle.gos_model.specs.Stores.{Store}
use Rattle.gos_model.specs.Steps.{Steps}
use Rattle.gos_model.specs.Labels.{Given}
use Rattle.gos_model.specs.Moves.{Program, Running, Act, Computing, Showing, Acts, Unfoldings, Move, Moves}
use Rattle.gos_programs.specs.contexts.Contexts.{Context, plug}

-- none of these is a label of the given port: they begin after the request and end before the answer
abbrev pub AreInner : List Act → Type 0
AreInner [] = Unit {0}
AreInner (Computing ∷ acts) = AreInner acts
AreInner (Showing o ∷ acts) = (o.port ≢ Given) × AreInner acts

-- a computation step
abbrev pub StepsPlugged : Type 0
StepsPlugged = (c : Context) (s s' : Store) (m t : Term) → Steps s s' m t → Steps s s' (plug c m) (plug c t)

-- unfoldings, as many
abbrev pub UnfoldingsPlugged : Type 0
UnfoldingsPlugged = (c : Context) (n : ℕ) (m t : Term) → Unfoldings n m t → Unfoldings n (plug c m) (plug c t)

-- a computation step or a label
abbrev pub ActsPlugged : Type 0
ActsPlugged = (i : Imports) (a : Act) (c : Context) (s s' : Store) (m t : Term) → Acts i a s s' m t → Acts i a s s' (plug c m) (plug c t)

-- a move, of two programs with the same imports
abbrev pub MovePlugged : Type 0
MovePlugged =
    (p q : Program) (a : Act) (c : Context) (s u : Store) (m t : Term)
    → p.imports ≡ q.imports → Move p a (Running m s) (Running t u) → Move q a (Running (plug c m) s) (Running (plug c t) u)

-- moves, where none asks or answers the program itself
abbrev pub MovesPlugged : Type 0
MovesPlugged =
    (p q : Program) (acts : List Act) (c : Context) (s u : Store) (m t : Term)
    → p.imports ≡ q.imports → AreInner acts → Moves p acts (Running m s) (Running t u)
    → Moves q acts (Running (plug c m) s) (Running (plug c t) u)
