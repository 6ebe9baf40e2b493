-- The files of a store that tells them: a finite map from names to bytes.
use Rattle.std.specs.Prelude.{◌≡◌, ◌≢◌, ℕ, List, [], Option, Some, None, unwrap_or}
use Rattle.std.specs.Ordering.{nat_cmp}
use Rattle.std.specs.Cmp.Lexicographic.{slice_cmp}
use Rattle.std.specs.Coded.{Coded, coded_list, coded_ℕ}
use Rattle.std.specs.FinMap.{FinMap, get, insert, code}

-- from names to bytes
abbrev pub Files : Type 0
Files = FinMap (slice_cmp nat_cmp) (List ℕ)

-- by which a proof tells such maps apart
abbrev pub files_code : Coded Files
files_code = code (coded_list coded_ℕ) (coded_list coded_ℕ)

-- the bytes of a file; a file that isn't held counts as empty
abbrev pub bytes_at : Files → List ℕ → List ℕ
bytes_at files name = unwrap_or (get files name) []

-- the files after one of them was written, where the store tells them
abbrev pub with_file : List ℕ → List ℕ → Option Files → Option Files
with_file name bytes None = None
with_file name bytes (Some files) = Some (insert files name bytes)

-- all files but one are as they were, and the store still tells its files if it did
abbrev pub SameBut : List ℕ → Option Files → Option Files → Type 0
SameBut name None None = Unit {0}
SameBut name None (Some new) = ⊥
SameBut name (Some old) None = ⊥
SameBut name (Some old) (Some new) = (other : List ℕ) → other ≢ name → get new other ≡ get old other
