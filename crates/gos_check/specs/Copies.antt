-- What a copy of an import keeps.
use Rattle.std.specs.Prelude.{ℕ, List}
use Rattle.gos_lex.specs.declared.token.Span.{Span}
use Rattle.gos_types.specs.Types.{Type', type_of}
use Rattle.gos_syntax.specs.Modules.{SeenImport}

-- an import, with its type without boxes
pub record PlainImport : Type 0 where
  pub name : List ℕ
  pub name_span : Span
  pub ty : Type'
  pub ty_span : Span

-- all of an import but the boxes of its type
abbrev pub plain_import : SeenImport → PlainImport
plain_import i = record { name = i.name; name_span = i.name_span; ty = type_of i.ty; ty_span = i.ty_span }
