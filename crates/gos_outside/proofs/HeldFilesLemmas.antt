-- A search of a list of files from its front answers as the map of those files does.
use Rattle.std.proofs.Common.{◌≡◌, ℕ, cond, if◌then◌else◌, List, [], ◌∷◌, map, Option, None, Some, refl, sym, ◌∙◌}
use Rattle.std.specs.Str.{bytes_eq}
use Rattle.std.specs.Ordering.{nat_cmp, eq_by_cmp}
use Rattle.std.specs.Cmp.{eq_by_cmp_equiv}
use Rattle.std.specs.Cmp.Lexicographic.{slice_cmp, nat_list_cmp_total, texts_ties}
use Rattle.std.specs.FinMap.{get, find, get-from_entries}
use Rattle.gos_outside.specs.HeldFiles.{Held, files_of}

-- the bytes of the first of these files that has the name
abbrev pub file_at : List ℕ → List Held → Option (List ℕ)
file_at name [] = None
file_at name (file ∷ files) = if bytes_eq file.0.items name then Some file.1.items else file_at name files

-- the code compares by `==`, and the map by its order
same_test : (name held : List ℕ) → eq_by_cmp (slice_cmp nat_cmp) name held ≡ bytes_eq held name
same_test name held = (eq_by_cmp_equiv nat_list_cmp_total).symm name held ∙ sym (texts_ties held name)

pub get_files_of : (held : List Held) (name : List ℕ) → get (files_of held) name ≡ file_at name held
get_files_of held name = get-from_entries nat_list_cmp_total _ name ∙ found held
  where
    found : (held : List Held) → find (slice_cmp nat_cmp) name (map (λ file. (file.0.items, file.1.items)) held) ≡ file_at name held
    found [] = refl
    found (file ∷ files) = λ i. cond (same_test name file.0.items i) (Some file.1.items) (found files i)
