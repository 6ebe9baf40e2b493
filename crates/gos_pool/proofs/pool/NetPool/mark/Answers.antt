use Rattle.std.proofs.Common.{rules, ap, ◌∙◌, subst, length, map, ◌≡◌}
use Rattle.std.proofs.lemmas.List.{length-map}
use Rattle.gos_netlist.specs.Seen.{cell_of}
use Rattle.gos_pool.specs.declared.region.Mark.{Mark}
use Rattle.gos_pool.specs.Pools.{Pool}
use Rattle.gos_pool.specs.Marks.{CanCutBack}
use Rattle.gos_pool.specs.inner.Inside.{pool_of}
use Rattle.gos_pool.proofs.MarkOrderLemmas.{cut_here}
use Rattle.gos_pool.proofs.pool.NetPool.mark.Goals as goal

pub returns-clause-cut : goal.returns-clause-cut
returns-clause-cut c =
    let cells : c.len.result ≡ length (map cell_of c.self.inside.cells.items) = search (rules, length-map) in
    let regions : c.len-2.result ≡ length c.self.inside.closed.items = search rules in
    let mark : Mark = record { cells = c.len.result; regions = c.len-2.result } in
    subst (λ (pool : Pool). CanCutBack pool mark) c.self.view_is
    (cut_here (pool_of c.self.inside) mark c.self.invariant.in_order
    (ap (λ (pool : Pool). pool.begun) c.self.view_is ∙ c.requires) cells regions)
