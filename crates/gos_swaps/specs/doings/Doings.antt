-- Doings: what happens at one place of a running term.
--
-- Read first: Heads; Moves of gos_model. A doing is an unfolding, a computation step or a label of a taken port, at the
-- place that a path names. The program's own request and answer are no doings: they are of the whole term.
use Rattle.std.specs.Prelude.{◌≡◌, ◌↔◌, ◌⊎◌, ℕ, List, IsFalse}
use Rattle.gos_model.specs.Terms.{Term}
use Rattle.gos_model.specs.Typing.{Imports}
use Rattle.gos_model.specs.Stores.{Store}
use Rattle.gos_model.specs.Reach.{Rewrites}
use Rattle.gos_model.specs.Paths.{ReachedAt}
use Rattle.gos_model.specs.Steps.{Computes}
use Rattle.gos_model.specs.Labels.{Label, is_output, Emits, Takes}
use Rattle.gos_model.specs.ArrayPorts.{AreGround}
use Rattle.gos_model.specs.Moves.{Act, Computing as Silent, Showing as Shows, Acts}
use Rattle.gos_swaps.specs.doings.Heads.{HeadAt}

-- what happens at a place
pub data Doing : Type 0 where
  Unfolding : Doing
  Computing : Doing
  Showing : (o : Label) → Doing

-- at the place that the path names, this happens to a term with store s: it becomes t, with store s'
abbrev pub DoesAt : Imports → List ℕ → Doing → Store → Store → Term → Term → Type 0
DoesAt i path Unfolding s s' m t = HeadAt path Rewrites m t × (s' ≡ s)
DoesAt i path Computing s s' m t = ReachedAt path (Computes s s') m t
DoesAt i path (Showing o) s s' m t = ReachedAt path (λ a b. Emits i o a b ⊎ Takes i o a b) m t × (s' ≡ s)

-- the doing with which a move ends
abbrev pub doing : Act → Doing
doing Silent = Computing
doing (Shows o) = Showing o

-- A computation step or a label is a doing at a path.
abbrev pub ActsHavePaths : Type 0
ActsHavePaths =
    (i : Imports) (a : Act) (s s' : Store) (m t : Term) → Acts i a s s' m t ↔ ((path : List ℕ) × DoesAt i path (doing a) s s' m t)

-- one sort of doing: of labels, those of one port and of one event, or two inputs
abbrev pub SameSort : Doing → Doing → Type 0
SameSort Unfolding Unfolding = Unit {0}
SameSort Computing Computing = Unit {0}
SameSort (Showing o) (Showing k) = (o.port ≡ k.port) × ((o.event ≡ k.event) ⊎ (IsFalse (is_output o) × IsFalse (is_output k)))
SameSort a b = ⊥

-- At one place one thing can happen, but that an access may be asked for its index once more, or be answered.
abbrev pub OneSort : Type 0
OneSort =
    (i : Imports) (p : List ℕ) (a b : Doing) (s u v : Store) (m t r : Term) → DoesAt i p a s u m t → DoesAt i p b s v m r → SameSort a b

-- of labels, those of one event
abbrev pub SameKind : Doing → Doing → Type 0
SameKind Unfolding Unfolding = Unit {0}
SameKind Computing Computing = Unit {0}
SameKind (Showing o) (Showing k) = (o.port ≡ k.port) × (o.event ≡ k.event)
SameKind a b = ⊥

-- Where no import is of an array, one thing can.
abbrev pub OneKind : Type 0
OneKind =
    (i : Imports) (p : List ℕ) (a b : Doing) (s u v : Store) (m t r : Term)
    → AreGround i → DoesAt i p a s u m t → DoesAt i p b s v m r → SameKind a b
