-- The typed term of a module hangs on what its text says alone, and not on the boxes of its tree and types. A law of these
-- definitions, for all modules.
--
-- Read first: Numbering; ModuleTrees of gos_syntax (a module without its boxes).
use Rattle.std.specs.Prelude.{◌≡◌}
use Rattle.gos_syntax.specs.Modules.{SeenModule}
use Rattle.gos_syntax.specs.ModuleTrees.{module_tree}
use Rattle.gos_check.specs.Numbering.{typed_term}

-- modules that are one but for their boxes have one typed term
abbrev pub TermIsOne : Type 0
TermIsOne = (m other : SeenModule) → module_tree m ≡ module_tree other → typed_term m ≡ typed_term other
