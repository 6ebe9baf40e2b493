-- How clauses see the orders of this crate's program, and what is true inside each.
use Rattle.std.specs.Prelude.{◌≡◌, ◌<◌, ◌≤◌, ◌^◌, ℕ, length}
use Rattle.gos_order.specs.declared.order.Order.TheInside.{Inside}
use Rattle.gos_order.specs.Rings.{Graph, HasRing}
use Rattle.gos_order.specs.inner.NodeLists.{at}
use Rattle.gos_order.specs.inner.Levels.{AreRising}

abbrev pub seen : Inside → Graph
seen order = order.links

-- Levels never fall along an edge, none is above the count of edges, and the graph has no ring.
pub record IsOrdered (order : Inside) : Type 0 where
  pub levels : length order.levels.items ≡ order.links.nodes
  pub before : order.before.bound ≡ order.links.nodes
  pub behind : order.behind.bound ≡ order.links.nodes
  pub rising : AreRising order.links.edges order.levels.items
  pub low : (node : ℕ) → at order.levels.items node ≤ length order.links.edges
  pub small : length order.links.edges < 2 ^ 63
  pub ringless : HasRing order.links.edges → ⊥
