-- The names that lines give, as the program finds them.
use Rattle.std.specs.Prelude.{◌≡◌, List}
use Rattle.std.specs.List.{list_any}
use Rattle.std.specs.Str.{bytes_eq}
use Rattle.gos_lex.specs.Lines.{Word}
use Rattle.gos_link.specs.declared.said.Item.{Item}
use Rattle.gos_link.specs.declared.lines.Given.{Given}
use Rattle.gos_link.specs.BuildFile.{has_instance, has_source, has_no_source}

-- the sets have the names that these lines give, and only those
pub record AreGiven (items : List Item) (given : Given) : Type 0 where
  pub instances : (name : Word) → list_any (bytes_eq name) given.instances.keys ≡ has_instance items name
  pub sources : (file : Word) → list_any (bytes_eq file) given.sources.keys ≡ has_source items file
  pub others : (file : Word) → list_any (bytes_eq file) given.others.keys ≡ has_no_source items file
