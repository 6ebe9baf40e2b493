use Rattle.std.proofs.Common.{◌≡◌, map, take}
use Rattle.std.specs.Prelude.{Some}
use Rattle.gos_plan.specs.Seen.{part_of}
use Rattle.gos_expand.specs.Fast.{making_by_number}
use Rattle.gos_expand.specs.inner.Orders.{making_of, kept_order}
use Rattle.gos_expand.proofs.orders.Orders.by_number.Given as goal

-- the orders of the parts so far
abbrev pub invariant-loop-kind : goal.invariant-loop-kind
invariant-loop-kind l =
    map (λ o. making_of (kept_order (Some o))) l.parts.items ≡ map (λ k. making_by_number (Some k)) (take l.kind-index (map part_of l.plan.parts))
