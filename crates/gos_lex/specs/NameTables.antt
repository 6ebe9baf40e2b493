-- Tables of numbers by name.
use Rattle.std.specs.Prelude.{ℕ, List, Option, Some, if◌then◌else◌}
use Rattle.std.specs.Str.{bytes_eq}
use Rattle.indexmap.specs.IndexMap.{get_by}
use Rattle.gos_lex.specs.declared.table.NameTable.{NameTable}

-- the number that a table has for a name
abbrev pub number_at : NameTable → List ℕ → Option ℕ
number_at table name = get_by (λ key. bytes_eq name key.items) table.by_name

-- what a table has for a name, once another is added with its number
abbrev pub added : List ℕ → ℕ → Option ℕ → List ℕ → Option ℕ
added name number before other = if bytes_eq other name then Some number else before
