use Rattle.std.proofs.Common.{◌≡◌, map, drop}
use Rattle.gos_model.specs.Typing.{import_type}
use Rattle.gos_model.specs.Sources.{import_of}
use Rattle.gos_check.proofs.scope.find_import.Given as goal

-- what is left has the type that all have
abbrev pub invariant-loop-import : goal.invariant-loop-import
invariant-loop-import l =
    import_type (map import_of (drop l.import-index l.imports)) l.name ≡ import_type (map import_of l.imports) l.name
