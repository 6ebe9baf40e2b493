use Rattle.std.proofs.Common.{◌<◌, length}
use Rattle.std.specs.List.{AllByRecursion}
use Rattle.gos_model.specs.Labels.{Port}
use Rattle.gos_witness.specs.NodeLists.{seen}
use Rattle.gos_witness.specs.Paths.{IsChild}
use Rattle.gos_witness.specs.inner.Ends.{IsOnWay}
use Rattle.gos_witness.specs.inner.PortMasks.{Knows}
use Rattle.gos_witness.proofs.needed.needed_line.Given as goal

-- the steps lead to a node
abbrev pub invariant-loop-way : goal.invariant-loop-way
invariant-loop-way l =
    (l.node < length l.list.nodes) × AllByRecursion IsChild l.steps.items
    × ((o : Port) → Knows l.list o l.port l.masks → IsOnWay o l.steps.items (seen l.list l.root) (seen l.list l.node))

abbrev pub decreases-loop-way : goal.decreases-loop-way
decreases-loop-way l = l.node
