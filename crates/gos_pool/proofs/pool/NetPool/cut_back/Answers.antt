use Rattle.std.proofs.Common.{rules, refl, sym, ap, ◌∙◌, subst, take, None}
use Rattle.gos_pool.specs.Pools.{Pool, KeepsClosed}
use Rattle.gos_pool.specs.Marks.{CanCutBack}
use Rattle.gos_pool.specs.inner.Inside.{pool_of}
use Rattle.gos_pool.proofs.MarkOrderLemmas.{seen_cut, order_cut, cut_keeps}
use Rattle.gos_pool.proofs.pool.NetPool.cut_back.Goals as goal

pub invariant_of-self : goal.invariant_of-self
invariant_of-self c =
    let can : CanCutBack (pool_of c.self.inside) c.args.mark =
    subst (λ (pool : Pool). CanCutBack pool c.args.mark) (sym c.self.view_is) c.requires in
    record {
      cells_room = search rules;
      closed_room = search rules;
      numbered = search rules;
      in_order =
          order_cut (pool_of c.self.inside) _ c.args.mark c.self.invariant.in_order can
          (seen_cut c.args.mark.cells c.self.inside.cells.items _ c.truncate.ensures.items) c.truncate-2.ensures.items refl;
    }

pub returns-clause-cells : goal.returns-clause-cells
returns-clause-cells c =
    seen_cut c.args.mark.cells c.self.inside.cells.items _ c.truncate.ensures.items
    ∙ ap (λ (pool : Pool). take c.args.mark.cells pool.cells) c.self.view_is

pub returns-clause-kept : goal.returns-clause-kept
returns-clause-kept c =
    let left : Pool =
    pool_of (record { cells = c.truncate.new.self; closed = c.truncate-2.new.self; begun = None; spare = c.self.inside.spare }) in
    let can : CanCutBack (pool_of c.self.inside) c.args.mark =
    subst (λ (pool : Pool). CanCutBack pool c.args.mark) (sym c.self.view_is) c.requires in
    subst (λ (old : Pool). KeepsClosed left old) c.self.view_is
    (cut_keeps (pool_of c.self.inside) left c.args.mark c.self.invariant.in_order can
    (seen_cut c.args.mark.cells c.self.inside.cells.items _ c.truncate.ensures.items) c.truncate-2.ensures.items refl)
