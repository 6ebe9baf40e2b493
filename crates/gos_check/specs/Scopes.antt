-- The binders around a term, and the type of a name under them.
use Rattle.std.specs.Prelude.{ℕ, List, [], ◌∷◌, Option, Some, None, Ok, Err, if◌then◌else◌}
use Rattle.std.specs.Str.{bytes_eq}
use Rattle.gos_lex.specs.declared.token.Span.{Span}
use Rattle.gos_types.specs.Types.{Type'}
use Rattle.gos_model.specs.Typing.{Imports, import_type}
use Rattle.gos_check.specs.Faults.{Unbound, Found}

-- a binder: the name that it binds, and the type of that name
pub record Binder : Type 0 where
  pub name : List ℕ
  pub ty : Type'

-- the binders around a term, the innermost first
abbrev pub Binders : Type 0
Binders = List Binder

-- the type of a name: of its innermost binder, or else of the import
abbrev pub type_at : Imports → Binders → List ℕ → Option Type'
type_at i [] x = import_type i x
type_at i (b ∷ g) x = if bytes_eq b.name x then Some b.ty else type_at i g x

-- a name that is used, where it has a type
abbrev pub used : Span → List ℕ → Option Type' → Found Type'
used span x None = Err (Unbound x span)
used span x (Some t) = Ok t
