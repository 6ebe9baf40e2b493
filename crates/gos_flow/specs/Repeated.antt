-- Of the same file a command makes the same. A law of these definitions, for all commands.
--
-- Read first: Run. Of the other files nothing is asked.
use Rattle.std.specs.Prelude.{◌≡◌, ℕ, List, Option, Some}
use Rattle.gos_outside.specs.Files.{Files, bytes_at, with_file}
use Rattle.gos_flow.specs.Command.{Command, read_by, written_by}
use Rattle.gos_flow.specs.Run.{IsDone}

-- Where it is done twice, and the file that it reads holds the same bytes, it writes the same text, and tells the same.
abbrev pub CommandMakesOne : Type 0
CommandMakesOne =
    (c : Command) (files others : Files) (new other : Option Files) (cells told : ℕ) → bytes_at files (read_by c) ≡ bytes_at others (read_by c)
    → IsDone c (Some files) new cells → IsDone c (Some others) other told
    → (text : List ℕ) × (new ≡ with_file (written_by c) text (Some files)) × (other ≡ with_file (written_by c) text (Some others)) × (cells ≡ told)
