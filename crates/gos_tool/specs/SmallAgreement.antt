-- What it is to write the same, in small.
--
-- Read first: Agreement.
use Rattle.std.specs.Prelude.{◌≡◌, ◌≢◌, List, [], ◌∷◌, Option, Some}
use Rattle.gos_outside.specs.Files.{Files, bytes_at, with_file}
use Rattle.gos_outside.specs.Calls.{StoreCall, Write}
use Rattle.gos_lex.specs.Lines.{Word}
use Rattle.gos_tool.specs.Agreement.{WriteTheSame}

-- the same bytes in one file are the same, whatever the stores held
abbrev pub SameBytesAre : Type 0
SameBytesAre =
    (files others : Files) (name text : Word)
    → WriteTheSame (Write name ∷ []) (Some files) (Some others) (with_file name text (Some files)) (with_file name text (Some others))

-- other bytes are not
abbrev pub OtherBytesAreNot : Type 0
OtherBytesAreNot =
    (files : Files) (name : Word)
    → WriteTheSame (Write name ∷ []) (Some files) (Some files) (with_file name (1 ∷ []) (Some files)) (with_file name (2 ∷ []) (Some files)) → ⊥

-- nor is it to leave a file as it was, where it was another
abbrev pub OldBytesAreNot : Type 0
OldBytesAreNot =
    (files others : Files) (name : Word) → bytes_at files name ≢ bytes_at others name
    → WriteTheSame (Write name ∷ []) (Some files) (Some others) (Some files) (Some others) → ⊥

-- over one store what is written the same leaves one
abbrev pub LeaveOne : Type 0
LeaveOne = (calls : List StoreCall) (old new other : Option Files) → WriteTheSame calls old old new other → new ≡ other
