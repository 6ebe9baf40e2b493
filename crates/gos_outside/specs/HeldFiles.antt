-- A list of files, the one that counts first, as a map from names to bytes.
use Rattle.std.specs.Prelude.{ℕ, List, map, Vec}
use Rattle.std.specs.FinMap.{from_entries}
use Rattle.std.specs.declared.alloc.Global.{Global}
use Rattle.gos_outside.specs.Files.{Files}

-- a name and the bytes of its file
abbrev pub Held : Type 0
Held = Vec ℕ Global × Vec ℕ Global

-- the map of these files; of two with one name the first counts
abbrev pub files_of : List Held → Files
files_of held = from_entries (map (λ file. (file.0.items, file.1.items)) held)
