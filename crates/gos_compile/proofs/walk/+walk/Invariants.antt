use Rattle.std.proofs.Common.{◌+◌, ◌*◌}
use Rattle.gos_check.specs.Nodes.{node_seen}
use Rattle.gos_compile.specs.Wiring.{nodes}
use Rattle.gos_compile.proofs.walk.+walk.Given as goal

abbrev pub decreases-wire : goal.decreases-wire
decreases-wire l = 2 * nodes (node_seen l.node.now)

abbrev pub decreases-wire_array : goal.decreases-wire_array
decreases-wire_array l = 2 * nodes (node_seen l.body.now) + 1

abbrev pub decreases-wire_block : goal.decreases-wire_block
decreases-wire_block l = 2 * nodes (node_seen l.body.now) + 1

abbrev pub decreases-wire_choice : goal.decreases-wire_choice
decreases-wire_choice l = 2 * (nodes (node_seen l.m.now) + nodes (node_seen l.n.now) + nodes (node_seen l.p.now)) + 1

abbrev pub decreases-wire_function : goal.decreases-wire_function
decreases-wire_function l = 2 * nodes (node_seen l.body.now) + 1

abbrev pub decreases-wire_one : goal.decreases-wire_one
decreases-wire_one l = 2 * nodes (node_seen l.m.now) + 1

abbrev pub decreases-wire_two : goal.decreases-wire_two
decreases-wire_two l = 2 * (nodes (node_seen l.m.now) + nodes (node_seen l.n.now)) + 1
