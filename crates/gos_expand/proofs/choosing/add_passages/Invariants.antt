use Rattle.std.proofs.Common.{◌≡◌}
use Rattle.std.specs.Option.{option_copied}
use Rattle.gos_expand.specs.inner.Orders.{making_of}
use Rattle.gos_plan.specs.Seen.{part_of}
use Rattle.gos_expand.specs.inner.Choosing.{GoAcross, Adds, PassesTo}
use Rattle.gos_expand.proofs.choosing.add_passages.Given as goal

-- the edges to the handshakes so far are added
abbrev pub invariant-loop-to : goal.invariant-loop-to
invariant-loop-to l =
    Adds (PassesTo l.directions l.table (making_of (option_copied l.order)) (part_of l.kind) l.part l.from l.to) l.initial.graph.edges l.graph.edges
    × (l.graph.nodes ≡ l.initial.graph.nodes)
    × GoAcross l.directions l.graph.edges
