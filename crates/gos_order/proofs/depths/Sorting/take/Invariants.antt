use Rattle.std.proofs.Common.{◌≡◌, ◌≤◌, ◌+◌, ℕ, suc, length}
use Rattle.gos_order.specs.declared.links.Way.TheVariants.{Out}
use Rattle.gos_order.specs.inner.NodeLists.{at}
use Rattle.gos_order.specs.inner.Chains.{near_at}
use Rattle.gos_order.specs.inner.Searches.{Grows}
use Rattle.gos_order.specs.inner.Sortings.{AreSorted, left_amid}
use Rattle.gos_order.proofs.depths.Sorting.take.Given as goal

-- the edges from the node behind the last one are followed
abbrev pub invariant-loop-last : goal.invariant-loop-last
invariant-loop-last l =
    record {
      grows : Grows l.initial.self.ready l.self.ready;
      within : l.last ≤ length l.links.edges;
      there : (place : ℕ) → l.last ≡ place + 1 → near_at Out l.links.edges place ≡ l.node;
      deep : l.depth ≡ suc (at l.self.depths.items l.node);
      shallow : l.depth ≤ l.place + 1;
      sorted : AreSorted l.links l.self.depths.items l.self.waits.items l.self.ready.items (left_amid l.links.edges l.self.ready.items l.place l.last) (l.place + 1);
    }

abbrev pub decreases-loop-last : goal.decreases-loop-last
decreases-loop-last l = l.last
