use Rattle.std.proofs.Common.{◌≡◌, ◌<◌, ℕ, length, nat_eq, if◌then◌else◌}
use Rattle.gos_order.specs.declared.links.Way.TheVariants.{Out}
use Rattle.gos_order.specs.inner.NodeLists.{at}
use Rattle.gos_order.specs.inner.Chains.{far_at}
use Rattle.gos_order.specs.inner.Sortings.{total}
use Rattle.gos_order.proofs.depths.edges_to.Given as goal

-- the edges before the place are counted
abbrev pub invariant-loop-place : goal.invariant-loop-place
invariant-loop-place l =
    record {
      all : length l.waits.items ≡ l.links.nodes;
      counted : (node : ℕ) → node < l.links.nodes → at l.waits.items node ≡ total (λ place. if nat_eq (far_at Out l.links.edges place) node then 1 else 0) l.place;
    }
