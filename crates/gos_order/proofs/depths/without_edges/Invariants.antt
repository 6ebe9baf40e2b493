use Rattle.std.proofs.Common.{◌≡◌}
use Rattle.gos_order.proofs.ReadyLemmas.{AreReady}
use Rattle.gos_order.proofs.depths.without_edges.Given as goal

-- of the nodes before this one
abbrev pub invariant-loop-node : goal.invariant-loop-node
invariant-loop-node l =
    record {
      bound : l.ready.bound ≡ l.nodes;
      are : AreReady l.waits l.ready.items l.node;
    }
