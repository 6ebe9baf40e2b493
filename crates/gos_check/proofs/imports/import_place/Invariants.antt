use Rattle.std.proofs.Common.{◌≡◌, drop}
use Rattle.gos_check.specs.Judgements.{import_place}
use Rattle.gos_check.proofs.imports.import_place.Given as goal

-- what is left has the place that all have
abbrev pub invariant-loop-import : goal.invariant-loop-import
invariant-loop-import l = import_place (drop l.import-index l.imports) l.name ≡ import_place l.imports l.name
