-- Moves of a term under more imports.
--
-- Read first: Moves of gos_model. A program whose imports are among those of another one does there what it does by
-- itself, and where it knows all the names of its term it does nothing more.
use Rattle.std.specs.Prelude.{◌≡◌, List, Some}
use Rattle.gos_types.specs.Types.{Type'}
use Rattle.gos_model.specs.Terms.{Name, Term, Skip, Lit, Bound, Import, Lam, App, Both, Fst, Snd, Seq, Par, If, While, Assign, Deref, New, NewArray, Not, Bin, Loc, Arr, Scope, Wait, Held, Put}
use Rattle.gos_model.specs.Typing.{Imports, Typed, import_type}
use Rattle.gos_model.specs.Stores.{Store}
use Rattle.gos_model.specs.Moves.{Program, Config, Idle, Running, Act, Move, Moves, Stalled}
use Rattle.gos_programs.specs.contexts.Plugged.{AreInner}

-- all imports of the first are among those of the second
abbrev pub AreAmong : Imports → Imports → Type 0
AreAmong i j = (x : Name) (t : Type') → import_type i x ≡ Some t → import_type j x ≡ Some t

-- all names of a term are of these imports
abbrev pub Knows : Imports → Term → Type 0
Knows i Skip = Unit {0}
Knows i (Lit k w) = Unit {0}
Knows i (Bound n) = Unit {0}
Knows i (Import x) = (t : Type') × (import_type i x ≡ Some t)
Knows i (Lam a m) = Knows i m
Knows i (App m n) = Knows i m × Knows i n
Knows i (Both m n) = Knows i m × Knows i n
Knows i (Fst m) = Knows i m
Knows i (Snd m) = Knows i m
Knows i (Seq m n) = Knows i m × Knows i n
Knows i (Par m n) = Knows i m × Knows i n
Knows i (If m n p) = Knows i m × Knows i n × Knows i p
Knows i (While m n) = Knows i m × Knows i n
Knows i (Assign m n) = Knows i m × Knows i n
Knows i (Deref m) = Knows i m
Knows i (New w m) = Knows i m
Knows i (NewArray n w m) = Knows i m
Knows i (Not m) = Knows i m
Knows i (Bin op m n) = Knows i m × Knows i n
Knows i (Loc l) = Unit {0}
Knows i (Arr l) = Unit {0}
Knows i (Scope l m) = Knows i m
Knows i (Wait x s) = (t : Type') × (import_type i x ≡ Some t)
Knows i (Held k op n) = Knows i n
Knows i (Put m k) = Knows i m

-- A program knows the names of its source, and of all that this becomes.
abbrev pub SourcesAreKnown : Type 0
SourcesAreKnown = (i : Imports) (g : List Type') (m : Term) (t : Type') → Typed i g m t → Knows i m

abbrev pub RunsAreKnown : Type 0
RunsAreKnown =
    (p : Program) (acts : List Act) (t : Term) (s : Store) → Knows p.imports p.body → Moves p acts Idle (Running t s) → Knows p.imports t

-- A move is one under more imports.
abbrev pub MoveWidens : Type 0
MoveWidens =
    (p q : Program) (a : Act) (m : Term) (s : Store) (d : Config)
    → AreAmong p.imports q.imports → Move p a (Running m s) d → Move q a (Running m s) d

abbrev pub MovesWiden : Type 0
MovesWiden =
    (p q : Program) (acts : List Act) (m t : Term) (s u : Store)
    → AreAmong p.imports q.imports → AreInner acts → Moves p acts (Running m s) (Running t u) → Moves q acts (Running m s) (Running t u)

-- Where all names are known, there is no other move under more imports, and so it waits where it does by itself.
abbrev pub MoveNarrows : Type 0
MoveNarrows =
    (p q : Program) (a : Act) (m : Term) (s : Store) (d : Config)
    → AreAmong p.imports q.imports → Knows p.imports m → Move q a (Running m s) d → Move p a (Running m s) d

abbrev pub WaitsWidely : Type 0
WaitsWidely =
    (p q : Program) (m : Term) (s : Store)
    → AreAmong p.imports q.imports → Knows p.imports m → Stalled p (Running m s) → Stalled q (Running m s)
