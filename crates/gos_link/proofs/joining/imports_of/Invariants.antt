use Rattle.std.proofs.Common.{◌≡◌, All, map, take}
use Rattle.gos_plan.specs.Ranges.{IsSmall}
use Rattle.gos_plan.specs.Seen.{import_of}
use Rattle.gos_link.specs.inner.Opens.{open_seen}
use Rattle.gos_link.proofs.joining.imports_of.Given as goal

-- copies of the imports so far
abbrev pub invariant-loop-open : goal.invariant-loop-open
invariant-loop-open l =
    (map import_of l.imports.items ≡ map (λ o. o.import) (map open_seen (take l.open-index l.opens)))
    × All (λ i. IsSmall i.ty) l.imports.items
