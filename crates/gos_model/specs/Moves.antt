-- Moves and traces of a program.
--
-- Read first: Steps, Labels. The branches of `||` move in any order: a move is at any reached place.
use Rattle.std.specs.Prelude.{◌≡◌, ℕ, zero, suc, IsTrue, ◌⊎◌, List, [], ◌∷◌}
use Rattle.gos_model.specs.Terms.{Term, Skip, Lit}
use Rattle.gos_model.specs.Typing.{Imports}
use Rattle.gos_model.specs.Stores.{Store}
use Rattle.gos_model.specs.Reach.{Rel, Reached, Unfolds}
use Rattle.gos_model.specs.Steps.{Steps}
use Rattle.gos_model.specs.Labels.{Label, given, Emits, Takes, is_output}

-- a program: its open imports, and its body
pub record Program : Type 0 where
  pub imports : Imports
  pub body : Term

-- idle, or a running term with its store
pub data Config : Type 0 where
  Idle : Config
  Running : (m : Term) (s : Store) → Config

-- what a move shows: nothing, as a computation step, or a label
pub data Act : Type 0 where
  Computing : Act
  Showing : (o : Label) → Act

-- one computation step or label at a reached place
abbrev pub Acts : Imports → Act → Store → Store → Rel
Acts i Computing s s' m t = Steps s s' m t
Acts i (Showing o) s s' m t = Reached (λ a b. Emits i o a b ⊎ Takes i o a b) m t × (s' ≡ s)

-- the program's own answer, with which it ends
abbrev pub Answers : Label → Term → Type 0
Answers o m = ((m ≡ Skip) × (o ≡ given 1 0)) ⊎ ((k : ℕ) × (w : ℕ) × (m ≡ Lit k w) × (o ≡ given 1 k))

-- n unfoldings
abbrev pub Unfoldings : ℕ → Rel
Unfoldings zero m t = m ≡ t
Unfoldings (suc n) m t = (u : Term) × Unfolds m u × Unfoldings n u t

-- one computation step or label, to a configuration
abbrev pub ActsTo : Imports → Act → Store → Term → Config → Type 0
ActsTo i Computing s m Idle = ⊥
ActsTo i (Showing o) s m Idle = Answers o m
ActsTo i a s m (Running t s') = Acts i a s s' m t

-- A move: from Idle the root's request; else any number of unfoldings, and then a computation step or a label.
abbrev pub Move : Program → Act → Config → Config → Type 0
Move p a Idle c = (a ≡ Showing (given 0 0)) × (c ≡ Running p.body [])
Move p a (Running m s) c = (n : ℕ) × (u : Term) × Unfoldings n m u × ActsTo p.imports a s u c

-- a list of moves that leads from c to d
abbrev pub Moves : Program → List Act → Config → Config → Type 0
Moves p [] c d = c ≡ d
Moves p (a ∷ acts) c d = (b : Config) × Move p a c b × Moves p acts b d

-- the labels of a list of moves
abbrev pub labels : List Act → List Label
labels [] = []
labels (Computing ∷ acts) = labels acts
labels (Showing o ∷ acts) = o ∷ labels acts

-- stalled: no move from it ends in a computation step or an output, so it can only wait
abbrev pub Stalled : Program → Config → Type 0
Stalled p c =
    ((d : Config) → Move p Computing c d → ⊥) × ((o : Label) (d : Config) → IsTrue (is_output o) → Move p (Showing o) c d → ⊥)

-- a trace: the labels of a list of moves from Idle
abbrev pub Trace : Program → List Label → Type 0
Trace p ls = (acts : List Act) × (c : Config) × Moves p acts Idle c × (labels acts ≡ ls)
