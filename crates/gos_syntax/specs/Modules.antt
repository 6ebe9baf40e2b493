-- Modules and imports as clauses see them.
use Rattle.std.specs.Prelude.{ℕ, List}
use Rattle.gos_lex.specs.declared.token.Span.{Span}
use Rattle.gos_types.specs.declared.types.Ty.{Ty}
use Rattle.gos_syntax.specs.declared.terms.Term.{Term}

-- an import, with the bytes of its name
pub record SeenImport : Type 0 where
  pub name : List ℕ
  pub name_span : Span
  pub ty : Ty
  pub ty_span : Span

-- a module, with its imports in order
pub record SeenModule : Type 0 where
  pub imports : List SeenImport
  pub body : Term
  pub result : Ty
  pub result_span : Span
