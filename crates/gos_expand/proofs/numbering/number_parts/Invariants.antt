use Rattle.std.proofs.Common.{◌≡◌, ◌≤◌, ◌+◌, ◌*◌, take, map}
use Rattle.gos_plan.specs.Seen.{part_of}
use Rattle.gos_plan.specs.Size.{shakes_of}
use Rattle.gos_expand.specs.Blocks.{total}
use Rattle.gos_expand.specs.Gates.{part_size}
use Rattle.gos_expand.specs.inner.Orders.{making_in}
use Rattle.gos_expand.specs.inner.Tokens.{held_nets}
use Rattle.gos_expand.specs.inner.Departures.{departures_from}
use Rattle.gos_expand.proofs.numbering.number_parts.Given as goal

-- the nets of the parts so far, and what comes behind these
abbrev pub invariant-loop-index : goal.invariant-loop-index
invariant-loop-index l =
    (map (λ s. map held_nets s.items) l.parts.items ≡ departures_from (making_in l.orders) 0 l.from (take l.index (map part_of l.plan.parts)))
    × (l.next ≡ l.from + total (λ i k. part_size (making_in l.orders i) k) 0 (take l.index (map part_of l.plan.parts)))
    × (l.next ≤ l.from + 24 * (l.index + shakes_of (take l.index (map part_of l.plan.parts))))
