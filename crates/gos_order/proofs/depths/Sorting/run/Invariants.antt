use Rattle.std.proofs.Common.{◌≡◌, ◌≤◌, ◌-◌, length}
use Rattle.gos_order.specs.inner.Sortings.{AreTaken}
use Rattle.gos_order.proofs.depths.Sorting.run.Given as goal

-- the edges from the nodes before the place are followed
abbrev pub invariant-loop-place : goal.invariant-loop-place
invariant-loop-place l =
    record {
      bound : l.self.ready.bound ≡ l.links.nodes;
      within : l.place ≤ length l.self.ready.items;
      sorted : AreTaken l.links l.self.depths.items l.self.waits.items l.self.ready.items l.place;
    }

abbrev pub decreases-loop-place : goal.decreases-loop-place
decreases-loop-place l = l.self.ready.bound - l.place
