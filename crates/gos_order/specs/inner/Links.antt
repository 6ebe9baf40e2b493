-- How clauses see the linked edges of this crate's program, and what is true inside.
use Rattle.std.specs.Prelude.{◌≡◌, ◌<◌, ◌^◌, length, map}
use Rattle.gos_order.specs.declared.links.Entry.{Entry}
use Rattle.gos_order.specs.declared.links.Way.TheVariants.{Out, In}
use Rattle.gos_order.specs.declared.links.Links.TheInside.{Inside}
use Rattle.gos_order.specs.Rings.{Edge, Graph, IsInRange}
use Rattle.gos_order.specs.inner.Chains.{AreChained}

abbrev pub edge_of : Entry → Edge
edge_of entry = record { from = entry.from; to = entry.to }

abbrev pub graph_of : Inside → Graph
graph_of links = record { nodes = length links.last_out.items; edges = map edge_of links.entries.items }

-- The edges are chained by their beginnings and by their ends, and are between nodes.
pub record AreLinked (links : Inside) : Type 0 where
  pub sides : length links.last_in.items ≡ length links.last_out.items
  pub small : length links.entries.items < 2 ^ 63
  pub range : IsInRange (graph_of links)
  pub out : AreChained Out (map edge_of links.entries.items) links.last_out.items (map (λ entry. entry.next_out) links.entries.items)
  pub into : AreChained In (map edge_of links.entries.items) links.last_in.items (map (λ entry. entry.next_in) links.entries.items)
