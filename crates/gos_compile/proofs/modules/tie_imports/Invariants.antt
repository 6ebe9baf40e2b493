use Rattle.std.proofs.Common.{◌≡◌, ◌++◌, map, drop}
use Rattle.gos_model.specs.Sources.{import_of}
use Rattle.gos_compile.specs.Wiring.{import_ties}
use Rattle.gos_compile.proofs.modules.tie_imports.Given as goal

-- with the ties of the imports that are left they are all of them
abbrev pub invariant-loop-import : goal.invariant-loop-import
invariant-loop-import l =
    (l.number ≡ l.import-index)
    × (l.ties.items ++ import_ties l.number (map import_of (drop l.import-index l.imports))
    ≡ l.initial.ties.items ++ import_ties 0 (map import_of l.imports))
