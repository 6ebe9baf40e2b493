use Rattle.std.proofs.Common.{◌-◌, length}
use Rattle.gos_witness.specs.inner.Built.{IsBuilding, made}
use Rattle.gos_witness.proofs.substituting.add_root.Given as goal

-- the nodes so far
abbrev pub invariant-loop-number : goal.invariant-loop-number
invariant-loop-number l = IsBuilding l.modules l.binds l.root l.list l.nodes.items

-- modules without a node
abbrev pub decreases-loop-number : goal.decreases-loop-number
decreases-loop-number l = length l.modules - made l.nodes.items
