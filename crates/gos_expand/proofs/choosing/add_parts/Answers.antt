use Rattle.std.proofs.Common.{◌∙◌, ℕ, length, ap, subst, sym}
use Rattle.gos_plan.specs.Kinds.{Part, part_contacts}
use Rattle.gos_plan.specs.Plans.{Plan}
use Rattle.gos_plan.specs.Seen.{plan_of, part_of}
use Rattle.gos_expand.specs.Gates.{Making}
use Rattle.gos_expand.specs.inner.Orders.{making_of, making_in, IsOrderOf}
use Rattle.gos_expand.specs.inner.Choosing.{Adds, PassesFrom, PassesAcross}
use Rattle.gos_expand.proofs.BlockLemmas.{item_mapped}
use Rattle.gos_expand.proofs.PassageLemmas.{passes_at_more}
use Rattle.gos_expand.proofs.choosing.add_parts.Goals as goal

pub add_part-requires-clause-order : goal.add_part-requires-clause-order
add_part-requires-clause-order c =
    let i : ℕ = c.loop-index.index in
    let k : Part = part_of c.index-parts-index.result in
    let there = item_mapped part_of i c.parts-parts.result.now c.args.plan.now.parts c.index-parts-index.result c.parts-parts.ensures.value c.loop-index-test.true c.index-parts-index.is in
    subst (λ (m : Making). IsOrderOf m k) (sym (ap making_of c.get-order.ensures)) (c.requires.orders i k there)

pub add_part-requires-clause-passing : goal.add_part-requires-clause-passing
add_part-requires-clause-passing c =
    let i : ℕ = c.loop-index.index in
    let k : Part = part_of c.index-parts-index.result in
    let there = item_mapped part_of i c.parts-parts.result.now c.args.plan.now.parts c.index-parts-index.result c.parts-parts.ensures.value c.loop-index-test.true c.index-parts-index.is in
    subst (λ (m : Making). PassesAcross m k) (sym (ap making_of c.get-order.ensures)) (c.requires.passing i k there)

pub loop-index-preserved : goal.loop-index-preserved
loop-index-preserved c =
    let p : Plan = plan_of c.args.plan.now in
    let i : ℕ = c.loop-index.index in
    let k : Part = part_of c.index-parts-index.result in
    let there = item_mapped part_of i c.parts-parts.result.now c.args.plan.now.parts c.index-parts-index.result c.parts-parts.ensures.value c.loop-index-test.true c.index-parts-index.is in
    let added =
    subst
    (λ (m : Making).
    Adds (PassesFrom c.args.directions c.args.table.now m k i (length (part_contacts k))) c.loop-index.graph.edges c.add_part.new.graph.edges)
    (ap making_of c.get-order.ensures) c.in_ok-add_part.ensures.added in (
      passes_at_more c.args.directions c.args.table.now (making_in c.args.orders.now) p.parts i k there c.args.graph.now.edges
          c.loop-index.graph.edges c.add_part.new.graph.edges c.loop-index.invariant.0 added,
      c.add_part.ensures.nodes ∙ c.loop-index.invariant.1,
      c.add_part.ensures.across,
    )
