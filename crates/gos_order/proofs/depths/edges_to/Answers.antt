use Rattle.std.proofs.Common.{◌≡◌, ◌<◌, ◌≤◌, arith, ℕ, length, nat_eq, if◌then◌else◌}
use Rattle.std.proofs.lemmas.List.{get_or_read}
use Rattle.gos_order.specs.declared.links.Way.TheVariants.{Out}
use Rattle.gos_order.specs.inner.NodeLists.{at}
use Rattle.gos_order.specs.inner.Chains.{far_at}
use Rattle.gos_order.specs.inner.Sortings.{total}
use Rattle.gos_order.proofs.TotalLemmas.{total_bounded, one_at_most}
use Rattle.gos_order.proofs.depths.edges_to.Goals as goal

pub overflow_add-index_mut : goal.overflow_add-index_mut
overflow_add-index_mut c =
    let waits = c.loop-place.waits.items in
    let node = c.far-node.result in
    let part : ℕ → ℕ = λ place. if nat_eq (far_at Out c.args.links.now.edges place) node then 1 else 0 in
    let low : node < length waits = omega (arith, c.far-node.ensures.below, c.loop-place.invariant.all) in
    let read : c.index_mut.result.now ≡ at waits node = get_or_read waits node c.index_mut.result.now low c.index_mut.ensures.value 0 in
    let counted : at waits node ≡ total part c.loop-place.place = c.loop-place.invariant.counted node c.far-node.ensures.below in
    let few : total part c.loop-place.place ≤ c.loop-place.place =
    total_bounded part c.loop-place.place (λ place. one_at_most (nat_eq (far_at Out c.args.links.now.edges place) node)) in
    omega (arith, read, counted, few, c.loop-place-test.true, c.len-place-end.ensures.small)
