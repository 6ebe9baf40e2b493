-- Laws of the definitions.
--
-- Read first: Weight, Paths, Moves.
use Rattle.std.specs.Prelude.{◌≡◌, ◌↔◌, ◌⊎◌, ℕ, List, set, Some, None}
use Rattle.gos_types.specs.Types.{Type'}
use Rattle.gos_model.specs.Terms.{Term, Lit, Deref, Put}
use Rattle.gos_model.specs.Typing.{Imports, Typed}
use Rattle.gos_model.specs.Weight.{node_type}
use Rattle.gos_model.specs.Stores.{Entry, Store, entry_at, number_at}
use Rattle.gos_model.specs.Reach.{Under, Aside, Rewrites, Unfolds}
use Rattle.gos_model.specs.Paths.{AtSomePath}
use Rattle.gos_model.specs.Steps.{Locates, Steps, Computes}
use Rattle.gos_model.specs.Labels.{Label, Emits, Takes}
use Rattle.gos_model.specs.Moves.{Showing, Acts}

-- a typed term has one type
abbrev pub OneType : Type 0
OneType = (i : Imports) (g : List Type') (m : Term) (t u : Type') → Typed i g m t → Typed i g m u → t ≡ u

-- the type that weighs a node is the type of a typed term
abbrev pub NodeHasType : Type 0
NodeHasType = (i : Imports) (g : List Type') (m : Term) (t : Type') → Typed i g m t → node_type i g m ≡ t

-- a step at a reached place is a step at a path
abbrev pub StepsHavePaths : Type 0
StepsHavePaths = (s s' : Store) (m t : Term) → Steps s s' m t ↔ AtSomePath (Computes s s') m t

-- and so is a label
abbrev pub LabelsHavePaths : Type 0
LabelsHavePaths =
    (i : Imports) (o : Label) (s : Store) (m t : Term) → Acts i (Showing o) s s m t ↔ AtSomePath (λ a b. Emits i o a b ⊎ Takes i o a b) m t

-- and an unfolding of a head there
abbrev pub UnfoldingsHavePaths : Type 0
UnfoldingsHavePaths =
    (m t : Term) → Unfolds m t ↔ AtSomePath (λ a b. (Rewrites a b ⊎ Under Rewrites a b) ⊎ Aside Rewrites a b) m t

-- after a write the location has its width, and at the index that was written the number
abbrev pub WritesStore : Type 0
WritesStore =
    (s s' : Store) (m t : Term) (k : ℕ) → Computes s s' (Put m k) t
    → (e : Entry) × (i : ℕ) × Locates m e.place i × (entry_at s e.place ≡ Some e)
    × (entry_at s' e.place ≡ Some record e { numbers = set e.numbers i k }) × (number_at s' e.place i ≡ Some k)

-- and a read behind it gives that number
abbrev pub ReadsBehindWrite : Type 0
ReadsBehindWrite =
    (s s' s'' : Store) (m t v : Term) (k : ℕ) → Computes s s' (Put m k) t → Computes s' s'' (Deref m) v → (w : ℕ) × (v ≡ Lit k w)

-- where the store has no number none is written or read: at a location that it doesn't have, and at an index outside an array
abbrev pub AbsentIsNotWritten : Type 0
AbsentIsNotWritten =
    (s s' : Store) (m t : Term) (l i k : ℕ) → Locates m l i → number_at s l i ≡ None → Computes s s' (Put m k) t → ⊥

abbrev pub AbsentIsNotRead : Type 0
AbsentIsNotRead =
    (s s' : Store) (m t : Term) (l i : ℕ) → Locates m l i → number_at s l i ≡ None → Computes s s' (Deref m) t → ⊥
