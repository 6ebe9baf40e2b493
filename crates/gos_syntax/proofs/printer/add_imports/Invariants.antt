use Rattle.std.proofs.Common.{◌≡◌, ◌++◌, drop}
use Rattle.gos_syntax.specs.ModuleText.{imports_text}
use Rattle.gos_syntax.proofs.printer.add_imports.Given as goal

-- the lines so far, and those of what is left
abbrev pub invariant-loop-import : goal.invariant-loop-import
invariant-loop-import l =
    l.text.items ++ imports_text (drop l.import-index l.imports) ≡ l.fn.text.items ++ imports_text l.imports
