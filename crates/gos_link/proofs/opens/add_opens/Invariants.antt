use Rattle.std.proofs.Common.{◌≡◌, ◌++◌, All, map, drop}
use Rattle.gos_plan.specs.Ranges.{IsSmall}
use Rattle.gos_plan.specs.Seen.{import_of}
use Rattle.gos_link.specs.inner.Opens.{open_seen, opens_in}
use Rattle.gos_link.proofs.opens.add_opens.Given as goal

-- with those of the imports that are left they are all
abbrev pub invariant-loop-number : goal.invariant-loop-number
invariant-loop-number l =
    (map open_seen l.opens.items ++ opens_in l.services l.plan l.number (map import_of (drop l.number l.imports))
    ≡ map open_seen l.initial.opens.items ++ opens_in l.services l.plan 0 (map import_of l.imports))
    × (All (λ i. IsSmall i.ty) l.imports → All (λ o. IsSmall o.import.now.ty) l.initial.opens.items → All (λ o. IsSmall o.import.now.ty) l.opens.items)
