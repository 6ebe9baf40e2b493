use Rattle.std.proofs.Common.{◌≡◌, ◌++◌, All, map, drop}
use Rattle.gos_plan.specs.Ranges.{IsSmall}
use Rattle.gos_plan.specs.Seen.{plan_of}
use Rattle.gos_link.specs.inner.Opens.{open_seen, opens_among}
use Rattle.gos_link.proofs.opens.opens_of.Given as goal

-- with those of the plans that are left they are all
abbrev pub invariant-loop-number : goal.invariant-loop-number
invariant-loop-number l =
    (map open_seen l.opens.items ++ opens_among l.services l.number (map plan_of (drop l.number l.plans))
    ≡ opens_among l.services 0 (map plan_of l.plans))
    × All (λ o. IsSmall o.import.now.ty) l.opens.items
