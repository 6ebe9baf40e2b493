-- The modules that the grammar speaks of: those of the program without their boxes.
--
-- Read first: Trees, Modules.
use Rattle.std.specs.Prelude.{ℕ, List, map}
use Rattle.gos_lex.specs.declared.token.Span.{Span}
use Rattle.gos_types.specs.Types.{Type', type_of}
use Rattle.gos_syntax.specs.Modules.{SeenImport, SeenModule}
use Rattle.gos_syntax.specs.Trees.{Tree, tree_of}

-- an import with its places in the text
pub record ImportTree : Type 0 where
  pub name : List ℕ
  pub name_span : Span
  pub ty : Type'
  pub ty_span : Span

-- a module with its places in the text
pub record ModuleTree : Type 0 where
  pub imports : List ImportTree
  pub body : Tree
  pub result : Type'
  pub result_span : Span

-- an import of the program without its boxes
abbrev pub import_tree : SeenImport → ImportTree
import_tree imported =
    record { name = imported.name; name_span = imported.name_span; ty = type_of imported.ty; ty_span = imported.ty_span }

-- a module of the program without its boxes
abbrev pub module_tree : SeenModule → ModuleTree
module_tree made =
    record {
      imports = map import_tree made.imports;
      body = tree_of made.body.form made.body.span;
      result = type_of made.result;
      result_span = made.result_span;
    }
