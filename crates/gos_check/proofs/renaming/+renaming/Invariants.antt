use Rattle.std.proofs.Common.{◌+◌, ◌*◌}
use Rattle.gos_check.specs.Nodes.{node_seen}
use Rattle.gos_check.proofs.NodeSizes.{nodes}
use Rattle.gos_check.proofs.renaming.+renaming.Given as goal

abbrev pub decreases-exchange : goal.decreases-exchange
decreases-exchange l = 3 * nodes (node_seen l.node.now)

abbrev pub decreases-exchange_both : goal.decreases-exchange_both
decreases-exchange_both l = 3 * (nodes (node_seen l.m.now) + nodes (node_seen l.n.now)) + 2
