-- The numbers of the first of things that have a key, as tables have them.
use Rattle.std.specs.Prelude.{◌≡◌, ℕ, Bool, List, Option, Some, None, if◌then◌else◌}
use Rattle.std.specs.Str.{bytes_eq}
use Rattle.std.specs.Map.{lookup}
use Rattle.gos_lex.specs.Lines.{Word}
use Rattle.gos_link.specs.declared.build.Instance.{Instance}
use Rattle.gos_link.specs.Services.{instance_named}

-- the number that a key had, or else this one, if it is the key's own
abbrev pub or_first : Option ℕ → Bool → ℕ → Option ℕ
or_first None own n = if own then Some n else None
or_first (Some k) own n = Some k

-- the entries of a table have the number of the first instance of each name
abbrev pub AreFirst : List Instance → List (Word × ℕ) → Type 0
AreFirst is entries = (name : Word) → lookup (bytes_eq name) entries ≡ instance_named is name
