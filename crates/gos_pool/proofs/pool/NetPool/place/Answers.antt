use Rattle.std.proofs.Common.{[], ◌∷◌, ◌-◌, ap, ◌∙◌, sym, subst, map}
use Rattle.std.proofs.lemmas.List.{map-append, append-nil}
use Rattle.gos_netlist.specs.Seen.{cell_of}
use Rattle.gos_pool.specs.Pools.{Pool, KeepsClosed}
use Rattle.gos_pool.specs.inner.Inside.{pool_of}
use Rattle.gos_pool.proofs.RegionLemmas.{keeps_closed}
use Rattle.gos_pool.proofs.pool.NetPool.place.Goals as goal

pub returns-clause-kept : goal.returns-clause-kept
returns-clause-kept c =
    let new : Pool =
    pool_of (record { cells = c.push_reserved.new.self; closed = c.self.inside.closed; begun = c.self.inside.begun; spare = c.self.inside.spare - 1 }) in
    subst (λ (old : Pool). KeepsClosed old new) c.self.view_is
    (keeps_closed (pool_of c.self.inside) new c.self.invariant.in_order (
      cell_of c.args.cell ∷ [],
      ap (map cell_of) c.push_reserved.ensures.items ∙ map-append cell_of c.self.inside.cells.items (c.args.cell ∷ []),
    )
    ([], sym (append-nil c.self.inside.closed.items)))
