use Rattle.std.proofs.Common.{◌≡◌}
use Rattle.std.specs.Option.{option_copied}
use Rattle.gos_expand.specs.inner.Orders.{making_of}
use Rattle.gos_plan.specs.Seen.{part_of}
use Rattle.gos_expand.specs.inner.Choosing.{GoAcross, Adds, PassesFrom}
use Rattle.gos_expand.proofs.choosing.add_part.Given as goal

-- the edges from the handshakes so far are added
abbrev pub invariant-loop-from : goal.invariant-loop-from
invariant-loop-from l =
    Adds (PassesFrom l.directions l.table (making_of (option_copied l.order)) (part_of l.kind) l.part l.from) l.initial.graph.edges l.graph.edges
    × (l.graph.nodes ≡ l.initial.graph.nodes)
    × GoAcross l.directions l.graph.edges
