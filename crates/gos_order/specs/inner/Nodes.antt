-- How clauses see the node lists of this crate's program, and what is true inside each.
use Rattle.std.specs.Prelude.{◌≡◌, ◌<◌, ◌≤◌, ℕ, length, vec_capacity}
use Rattle.gos_order.specs.declared.nodes.Nodes.TheInside.{Inside}
use Rattle.gos_order.specs.inner.NodeLists.{NodeList, at}

abbrev pub node_list_of : Inside → NodeList
node_list_of nodes = record { bound = length nodes.places.items; items = nodes.items.items }

-- Each node's place is kept, so no node stands twice in the list, and there is room for all nodes.
pub record IsPlaced (nodes : Inside) : Type 0 where
  pub placed : (place : ℕ) → place < length nodes.items.items → at nodes.places.items (at nodes.items.items place) ≡ place
  pub below : (place : ℕ) → place < length nodes.items.items → at nodes.items.items place < length nodes.places.items
  pub small : length nodes.places.items ≤ 4294967295
  pub room : length nodes.places.items ≤ vec_capacity nodes.items
