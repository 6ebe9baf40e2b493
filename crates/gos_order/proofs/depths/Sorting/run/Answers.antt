use Rattle.std.proofs.Common.{◌≡◌, subst, arith, ℕ, length}
use Rattle.gos_order.specs.inner.Sortings.{AreSorted, left_after}
use Rattle.gos_order.proofs.DepthLemmas.{are_depths}
use Rattle.gos_order.proofs.depths.Sorting.run.Goals as goal

pub returns : goal.returns
returns c =
    let graph = c.args.links.now in
    let now = c.loop-place.self in
    let items = now.ready.items in
    let place = c.loop-place.place in
    let all : place ≡ length items = omega (arith, c.loop-place.invariant.within, c.len.ensures.count, c.loop-place-test.false) in
    are_depths graph now.depths.items now.waits.items items place
    (subst (λ (k : ℕ). AreSorted graph now.depths.items now.waits.items items (left_after graph.edges items k) place) all c.loop-place.invariant.sorted)
    c.requires.range c.requires.ringless
