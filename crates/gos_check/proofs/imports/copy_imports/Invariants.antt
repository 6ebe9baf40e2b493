use Rattle.std.proofs.Common.{◌≡◌, ◌++◌, map, drop}
use Rattle.gos_check.specs.Copies.{plain_import}
use Rattle.gos_check.proofs.imports.copy_imports.Given as goal

-- the copies so far, and what is left
abbrev pub invariant-loop-import : goal.invariant-loop-import
invariant-loop-import l =
    map plain_import l.copies.items ++ map plain_import (drop l.import-index l.imports) ≡ map plain_import l.imports
