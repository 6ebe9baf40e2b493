-- Configurations that are one but for the names of locations.
--
-- Read first: Proper; Renaming, SameStores of gos_programs. A new variable takes any location that the store doesn't
-- have, and the store gets its entries in the order in which variables come. Neither is seen from the outside.
use Rattle.std.specs.Prelude.{◌≡◌, ℕ, List}
use Rattle.gos_model.specs.Terms.{Term}
use Rattle.gos_model.specs.Typing.{Imports}
use Rattle.gos_model.specs.Stores.{Store}
use Rattle.gos_model.specs.Moves.{Config, Idle, Running}
use Rattle.gos_programs.specs.contexts.Renaming.{renamed, renamed_store}
use Rattle.gos_programs.specs.contexts.SameStores.{SameEntries}
use Rattle.gos_swaps.specs.doings.Doings.{Doing, DoesAt}
use Rattle.gos_swaps.specs.proper.Proper.{IsProper}

-- a renaming with its inverse
pub record Renaming : Type 0 where
  pub to : ℕ → ℕ
  pub back : ℕ → ℕ
  pub there : (l : ℕ) → back (to l) ≡ l
  pub again : (l : ℕ) → to (back l) ≡ l

-- one configuration, but for the names of locations and the order of the store's entries
abbrev pub Alike : Config → Config → Type 0
Alike Idle Idle = Unit {0}
Alike (Running m s) (Running t u) = (r : Renaming) × (t ≡ renamed r.to m) × SameEntries u (renamed_store r.to s)
Alike c d = ⊥

abbrev pub AlikeItself : Type 0
AlikeItself = (c : Config) → Alike c c

abbrev pub AlikeBack : Type 0
AlikeBack = (c d : Config) → Alike c d → Alike d c

abbrev pub AlikeOn : Type 0
AlikeOn = (c d e : Config) → Alike c d → Alike d e → Alike c e

-- What is alike to a proper configuration is proper.
abbrev pub AlikeStayProper : Type 0
AlikeStayProper = (m t : Term) (s u : Store) → IsProper m s → Alike (Running m s) (Running t u) → IsProper t u

-- Configurations that are alike do alike.
abbrev pub AlikeDoAlike : Type 0
AlikeDoAlike =
    (i : Imports) (p : List ℕ) (a : Doing) (s u s' : Store) (m t m' : Term)
    → Alike (Running m s) (Running m' s') → DoesAt i p a s u m t
    → (t' : Term) × (u' : Store) × DoesAt i p a s' u' m' t' × Alike (Running t u) (Running t' u')
