use Rattle.std.proofs.Common.{◌≡◌, map, take}
use Rattle.gos_model.specs.Sources as sources
use Rattle.gos_plan.specs.Seen as plans
use Rattle.gos_compile.specs.inner.Named.{HaveNames}
use Rattle.gos_compile.proofs.plans.plan_imports.Given as goal

-- the imports so far
abbrev pub invariant-loop-import : goal.invariant-loop-import
invariant-loop-import l =
    (map plans.import_of l.found.items ≡ map sources.import_of (take l.import-index l.imports)) × HaveNames l.found.items
