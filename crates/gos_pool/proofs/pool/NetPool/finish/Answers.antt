use Rattle.std.proofs.Common.{rules, refl, ap, ◌∙◌, length, map, [], ◌∷◌, ◌++◌, ◌≡◌}
use Rattle.std.proofs.lemmas.List.{length-map}
use Rattle.gos_netlist.specs.Seen.{cell_of}
use Rattle.gos_pool.specs.Pools.{Pool}
use Rattle.gos_pool.specs.inner.Inside.{pool_of}
use Rattle.gos_pool.proofs.MarkOrderLemmas.{order_finished}
use Rattle.gos_pool.proofs.pool.NetPool.finish.Goals as goal

pub invariant_of-self : goal.invariant_of-self
invariant_of-self c =
    let end : c.len.result ≡ length (map cell_of c.self.inside.cells.items) = search (rules, length-map) in
    let start : c.start.result ≡ c.args.region = search rules in
    record {
      cells_room = search rules;
      closed_room = search rules;
      numbered = search rules;
      in_order =
          order_finished (pool_of c.self.inside) _ c.args.region c.self.invariant.in_order
          (ap (λ (pool : Pool). pool.begun) c.self.view_is ∙ c.requires.begun) refl
          (c.push_reserved.ensures.items
          ∙ (λ i. c.self.inside.closed.items ++ record { start = start i; end = end i } ∷ [])) refl;
    }
