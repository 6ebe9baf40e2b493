-- What the linked edges' functions read and write, as clauses see it.
use Rattle.std.specs.Prelude.{◌≡◌, ◌<◌, ◌+◌, ℕ, List, [], ◌∷◌, ◌++◌, length, map, set}
use Rattle.std.proofs.Common.{sym, ◌∙◌, ap, subst, arith, get_or}
use Rattle.std.proofs.lemmas.List.{length-map, length-set, map-append}
use Rattle.gos_order.specs.declared.links.Entry.{Entry}
use Rattle.gos_order.specs.declared.links.Way.{Way}
use Rattle.gos_order.specs.declared.links.Way.TheVariants.{Out, In}
use Rattle.gos_order.specs.declared.links.Links.TheInside.{Inside}
use Rattle.gos_order.specs.Rings.{Edge, Graph, IsInRange, and_edge}
use Rattle.gos_order.specs.inner.NodeLists.{at}
use Rattle.gos_order.specs.inner.Chains.{far, near_at, far_at, IsLast, AreChained}
use Rattle.gos_order.specs.inner.Links.{edge_of, graph_of, AreLinked}
use Rattle.gos_order.proofs.EdgeLemmas.{far_in_range, range_more}
use Rattle.gos_order.proofs.ChainLemmas.{read, read_edge, chained_more}

module _ (inside : Inside) (linked : AreLinked inside) (graph : Graph) (view : graph_of inside ≡ graph) (place : ℕ)
    (within : place < length graph.edges) (entry : Entry) (is : entry ≡ get_or inside.entries.items place entry) where
  short_graph : place < length (graph_of inside).edges
  short_graph = subst (λ (g : Graph). place < length g.edges) (sym view) within

  short : place < length inside.entries.items
  short = omega (arith, short_graph, length-map inside.entries.items edge_of)

  pub far_is : (way : Way) → far way (edge_of entry) ≡ far_at way graph.edges place
  far_is way =
      subst (λ (g : Graph). far way (edge_of entry) ≡ far_at way g.edges place) view
      (sym (read_edge (far way) inside.entries.items place entry short is))

  pub far_below : (way : Way) → far way (edge_of entry) < graph.nodes
  far_below way =
      let range : IsInRange graph = subst (λ (g : Graph). IsInRange g) view linked.range in
      subst (λ (node : ℕ). node < graph.nodes) (sym (far_is way)) (far_in_range way graph place range within)

  pub next_out_is : IsLast Out graph.edges place (near_at Out graph.edges place) entry.next_out
  next_out_is =
      let next : at (map (λ (e : Entry). e.next_out) inside.entries.items) place ≡ entry.next_out =
      read (λ (e : Entry). e.next_out) inside.entries.items place entry short is in
      subst (λ (g : Graph). IsLast Out g.edges place (near_at Out g.edges place) entry.next_out) view
      (subst (λ (k : ℕ). IsLast Out (graph_of inside).edges place (near_at Out (graph_of inside).edges place) k) next
      (linked.out.links place short_graph))

  pub next_in_is : IsLast In graph.edges place (near_at In graph.edges place) entry.next_in
  next_in_is =
      let next : at (map (λ (e : Entry). e.next_in) inside.entries.items) place ≡ entry.next_in =
      read (λ (e : Entry). e.next_in) inside.entries.items place entry short is in
      subst (λ (g : Graph). IsLast In g.edges place (near_at In g.edges place) entry.next_in) view
      (subst (λ (k : ℕ). IsLast In (graph_of inside).edges place (near_at In (graph_of inside).edges place) k) next
      (linked.into.links place short_graph))

module _ (old : Inside) (linked : AreLinked old) (from to place : ℕ) (first : from < length old.last_out.items) (second : to < length old.last_out.items)
    (entries : List Entry) (entry : Entry)
    (is_entry : entry ≡ record { from = from; to = to; next_out = at old.last_out.items from; next_in = at old.last_in.items to })
    (pushed : entries ≡ old.entries.items ++ entry ∷ []) (is_place : place ≡ length old.entries.items + 1) where
  more_edges : map edge_of entries ≡ and_edge (map edge_of old.entries.items) from to
  more_edges =
      ap (map edge_of) pushed ∙ map-append edge_of old.entries.items (entry ∷ [])
      ∙ ap (λ (e : Entry). map edge_of old.entries.items ++ edge_of e ∷ []) is_entry

  more_out : map (λ (e : Entry). e.next_out) entries ≡ map (λ (e : Entry). e.next_out) old.entries.items ++ at old.last_out.items from ∷ []
  more_out =
      ap (map (λ (e : Entry). e.next_out)) pushed ∙ map-append (λ (e : Entry). e.next_out) old.entries.items (entry ∷ [])
      ∙ ap (λ (e : Entry). map (λ (x : Entry). x.next_out) old.entries.items ++ e.next_out ∷ []) is_entry

  more_in : map (λ (e : Entry). e.next_in) entries ≡ map (λ (e : Entry). e.next_in) old.entries.items ++ at old.last_in.items to ∷ []
  more_in =
      ap (map (λ (e : Entry). e.next_in)) pushed ∙ map-append (λ (e : Entry). e.next_in) old.entries.items (entry ∷ [])
      ∙ ap (λ (e : Entry). map (λ (x : Entry). x.next_in) old.entries.items ++ e.next_in ∷ []) is_entry

  counted : length (map edge_of old.entries.items) + 1 ≡ place
  counted = omega (arith, is_place, length-map old.entries.items edge_of)

  pub chained_out : AreChained Out (map edge_of entries) (set old.last_out.items from place) (map (λ (e : Entry). e.next_out) entries)
  chained_out =
      let edge : Edge = record { from = from; to = to } in
      let edges = map edge_of old.entries.items in
      let sized : length (map (λ (e : Entry). e.next_out) old.entries.items) ≡ length edges =
      length-map old.entries.items (λ (e : Entry). e.next_out) ∙ sym (length-map old.entries.items edge_of) in
      rw (more_edges, more_out, ← counted)
      (chained_more Out edges edge old.last_out.items (map (λ (e : Entry). e.next_out) old.entries.items) linked.out first sized)

  pub chained_in : AreChained In (map edge_of entries) (set old.last_in.items to place) (map (λ (e : Entry). e.next_in) entries)
  chained_in =
      let edge : Edge = record { from = from; to = to } in
      let edges = map edge_of old.entries.items in
      let sized : length (map (λ (e : Entry). e.next_in) old.entries.items) ≡ length edges =
      length-map old.entries.items (λ (e : Entry). e.next_in) ∙ sym (length-map old.entries.items edge_of) in
      let side : to < length old.last_in.items = omega (arith, second, linked.sides) in
      rw (more_edges, more_in, ← counted)
      (chained_more In edges edge old.last_in.items (map (λ (e : Entry). e.next_in) old.entries.items) linked.into side sized)

  pub range_kept : IsInRange (record { nodes = length (set old.last_out.items from place); edges = map edge_of entries })
  range_kept = rw (more_edges, length-set) (range_more (graph_of old) from to linked.range first second)

  pub sides_kept : length (set old.last_in.items to place) ≡ length (set old.last_out.items from place)
  sides_kept = rw (length-set, length-set) linked.sides
