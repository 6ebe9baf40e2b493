-- What holds of every configuration of a run, as far as the order of doings needs it.
--
-- Read first: Doings; Standing of gos_programs. That the sides of each `||` share nothing is not enough. The rest says that no
-- part names a location whose block is gone, or is elsewhere: a location that is taken anew would be one that another
-- part still names.
use Rattle.std.specs.Prelude.{◌≡◌, ◌⊎◌, ℕ, List, [], Contains, None}
use Rattle.gos_types.specs.Types.{Type'}
use Rattle.gos_model.specs.Terms.{Term, Lam, App, Both, Fst, Snd, Seq, Par, If, While, Assign, Deref, New, Not, Bin, Scope, Held, Put, NewArray}
use Rattle.gos_model.specs.Typing.{Imports, Typed, Thing, Variable, Place, Apart, things}
use Rattle.gos_model.specs.Stores.{Store, entry_at}
use Rattle.gos_model.specs.Substitution.{put_at}
use Rattle.gos_model.specs.Reach.{Unfolds}
use Rattle.gos_model.specs.Moves.{Program, Idle, Running, Act, Acts, Moves}
use Rattle.gos_programs.specs.contexts.Scopes.{KeepsScopes}
use Rattle.gos_programs.specs.contexts.Standing.{StandsIn, InScope, OpensDiffer}
use Rattle.gos_swaps.specs.doings.Doings.{Doing, DoesAt}

-- the parts of each `||` and of each application share nothing, under binders too
abbrev pub PartsApart : Term → Type 0
PartsApart (Lam a m) = PartsApart m
PartsApart (App m n) = Apart m n × PartsApart m × PartsApart n
PartsApart (Both m n) = PartsApart m × PartsApart n
PartsApart (Fst m) = PartsApart m
PartsApart (Snd m) = PartsApart m
PartsApart (Seq m n) = PartsApart m × PartsApart n
PartsApart (Par m n) = Apart m n × PartsApart m × PartsApart n
PartsApart (If m n p) = PartsApart m × PartsApart n × PartsApart p
PartsApart (While m n) = PartsApart m × PartsApart n
PartsApart (Assign m n) = PartsApart m × PartsApart n
PartsApart (Deref m) = PartsApart m
PartsApart (New w m) = PartsApart m
PartsApart (NewArray n w m) = PartsApart m
PartsApart (Not m) = PartsApart m
PartsApart (Bin op m n) = PartsApart m × PartsApart n
PartsApart (Scope l m) = PartsApart m
PartsApart (Held k op n) = PartsApart n
PartsApart (Put m k) = PartsApart m
PartsApart m = Unit {0}

-- no bound variable is free
abbrev pub IsClosed : Term → Type 0
IsClosed m = (n : ℕ) → Contains (things 0 m) (Variable n) → ⊥

-- A running term with its store, as runs have them.
pub record IsProper (m : Term) (s : Store) : Type 0 where
  pub apart : PartsApart m
  pub closed : IsClosed m
  pub scopes : KeepsScopes m s
  pub within : InScope [] m
  pub differ : OpensDiffer m
  pub standing : StandsIn s m

-- a source is so, and a closed one where it is a program's body
abbrev pub SourcesAreApart : Type 0
SourcesAreApart = (i : Imports) (g : List Type') (m : Term) (t : Type') → Typed i g m t → PartsApart m

abbrev pub SourcesAreClosed : Type 0
SourcesAreClosed = (i : Imports) (m : Term) (t : Type') → Typed i [] m t → IsClosed m

-- A closed term that shares nothing with m may be put in for a variable of m, where the parts of both are apart.
abbrev pub PuttingKeepsApart : Type 0
PuttingKeepsApart =
    (d : ℕ) (n m : Term) → IsClosed n → Apart m n → PartsApart m → PartsApart n → PartsApart (put_at d n m)

-- Nothing becomes free in a closed term by an unfolding, and its parts stay apart.
abbrev pub UnfoldingsShrink : Type 0
UnfoldingsShrink = (m t : Term) (x : Thing) → IsClosed m → Unfolds m t → Contains (things 0 t) x → Contains (things 0 m) x

abbrev pub UnfoldingsKeepApart : Type 0
UnfoldingsKeepApart = (m t : Term) → PartsApart m → IsClosed m → Unfolds m t → PartsApart t × IsClosed t

-- a location that the store doesn't have
abbrev pub IsNew : Store → Thing → Type 0
IsNew s (Place l) = entry_at s l ≡ None
IsNew s x = ⊥

-- By a step or a label only a new location does, and parts stay apart where each location has an entry.
abbrev pub ActsShrink : Type 0
ActsShrink =
    (i : Imports) (a : Act) (s s' : Store) (m t : Term) (x : Thing)
    → IsClosed m → Acts i a s s' m t → Contains (things 0 t) x → Contains (things 0 m) x ⊎ IsNew s x

abbrev pub ActsKeepApart : Type 0
ActsKeepApart =
    (i : Imports) (a : Act) (s s' : Store) (m t : Term)
    → PartsApart m → IsClosed m → StandsIn s m → Acts i a s s' m t → PartsApart t × IsClosed t

-- in a run of a source
abbrev pub RunsAreProper : Type 0
RunsAreProper =
    (p : Program) (acts : List Act) (t : Term) (s : Store) (ty : Type')
    → Typed p.imports [] p.body ty → Moves p acts Idle (Running t s) → IsProper t s

-- and whatever happens, a proper configuration leads to proper ones
abbrev pub DoingsStayProper : Type 0
DoingsStayProper =
    (i : Imports) (p : List ℕ) (a : Doing) (s u : Store) (m t : Term) → IsProper m s → DoesAt i p a s u m t → IsProper t u
