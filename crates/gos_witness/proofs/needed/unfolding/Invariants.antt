use Rattle.std.proofs.Common.{◌≡◌, ◌<◌, ◌++◌, length}
use Rattle.std.specs.List.{AllByRecursion}
use Rattle.gos_witness.specs.NodeLists.{seen}
use Rattle.gos_witness.specs.Paths.{IsChild}
use Rattle.gos_witness.specs.inner.Ends.{innermost}
use Rattle.gos_witness.proofs.needed.unfolding.Given as goal

-- the way from here to the innermost part is the rest of the whole way
abbrev pub invariant-loop-part : goal.invariant-loop-part
invariant-loop-part l =
    (l.node < length l.list.nodes) × AllByRecursion IsChild l.steps.items
    × (l.steps.items ++ innermost (seen l.list l.node) ≡ l.fn.reached.items ++ innermost (seen l.list l.head))

abbrev pub decreases-loop-part : goal.decreases-loop-part
decreases-loop-part l = l.node
