-- What several writes leave as it was: all files but those of a list of names.
--
-- One write leaves all but one (Files, `SameBut`). Lemmas that join writes are in proofs/OtherFilesLemmas.antt.
use Rattle.std.specs.Prelude.{◌≡◌, ◌≢◌, ℕ, List, [], ◌∷◌, Option, Some, None}
use Rattle.std.specs.FinMap.{get}
use Rattle.gos_outside.specs.Files.{Files}

-- a name that none of these is
abbrev pub IsApart : List ℕ → List (List ℕ) → Type 0
IsApart other [] = Unit {0}
IsApart other (name ∷ names) = (other ≢ name) × IsApart other names

-- all files but these are as they were, and the store still tells its files if it did
abbrev pub OthersSame : List (List ℕ) → Option Files → Option Files → Type 0
OthersSame names None None = Unit {0}
OthersSame names None (Some new) = ⊥
OthersSame names (Some old) None = ⊥
OthersSame names (Some old) (Some new) = (other : List ℕ) → IsApart other names → get new other ≡ get old other
