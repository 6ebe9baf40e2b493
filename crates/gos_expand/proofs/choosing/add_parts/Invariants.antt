use Rattle.std.proofs.Common.{◌≡◌}
use Rattle.gos_plan.specs.Seen.{plan_of}
use Rattle.gos_expand.specs.inner.Orders.{making_in}
use Rattle.gos_expand.specs.inner.Choosing.{GoAcross, Adds, PassesAt}
use Rattle.gos_expand.proofs.choosing.add_parts.Given as goal

-- the edges of the parts so far are added
abbrev pub invariant-loop-index : goal.invariant-loop-index
invariant-loop-index l =
    Adds (PassesAt l.directions l.table (making_in l.orders) (plan_of l.plan).parts l.index) l.initial.graph.edges l.graph.edges
    × (l.graph.nodes ≡ l.initial.graph.nodes)
    × GoAcross l.directions l.graph.edges
