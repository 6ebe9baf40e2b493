use Rattle.std.proofs.Common.{◌≡◌, ◌<◌, ◌+◌, ◌-◌, sym, ◌∙◌, subst, arith, ℕ, length}
use Rattle.std.proofs.lemmas.List.{get_or_read}
use Rattle.gos_order.specs.declared.links.Way.TheVariants.{Out}
use Rattle.gos_order.specs.inner.NodeLists.{at}
use Rattle.gos_order.specs.inner.Chains.{IsLast}
use Rattle.gos_order.specs.inner.Searches.{Grows}
use Rattle.gos_order.specs.inner.Sortings.{AreSorted, left_after, left_amid}
use Rattle.gos_order.proofs.SearchLemmas.{grows_not, grows_twice}
use Rattle.gos_order.proofs.SortingLemmas.{sorted_same}
use Rattle.gos_order.proofs.AmidLemmas.{amid_none, amid_all}
use Rattle.gos_order.proofs.TakeLemmas.{take_left, take_absent, taken_sorted, taken_depth, grows_maybe}
use Rattle.gos_order.proofs.depths.Sorting.take.Goals as goal

pub loop-last-init : goal.loop-last-init
loop-last-init c =
    let edges = c.args.links.now.edges in
    let depths = c.args.self.now.depths.items in
    let items = c.args.self.now.ready.items in
    let node = c.node-node.result in
    let last = c.last-last.result in
    let low : node < length depths = omega (arith, c.node-node.ensures.below, c.requires.bound, c.requires.sorted.depths_all) in
    let read : c.index.result.now ≡ at depths node = get_or_read depths node c.index.result.now low c.index.ensures 0 in
    record {
      grows = grows_not c.args.self.now.ready;
      within = c.last-last.ensures.within;
      there = c.last-last.ensures.there;
      deep = omega (arith, read);
      shallow = omega (arith, read, c.requires.sorted.low node);
      sorted =
          sorted_same c.args.links.now depths c.args.self.now.waits.items items (left_after edges items c.args.place)
          (left_amid edges items c.args.place last) c.args.place (c.args.place + 1) c.requires.sorted
          (amid_none edges items c.args.place node last (sym c.node-node.ensures.node) c.last-last.ensures) (omega arith);
    }

pub reach-requires-clause-left : goal.reach-requires-clause-left
reach-requires-clause-left c =
    let old = c.loop-last.self in
    let kept = c.loop-last.invariant in
    let inside : c.args.place < length old.ready.items = omega (arith, c.requires.within, kept.grows.longer) in
    let here : at old.ready.items c.args.place ≡ c.node-node.result = kept.grows.same c.args.place c.requires.within ∙ sym c.node-node.ensures.node in
    take_left c.args.links.now old.depths.items old.waits.items old.ready.items c.args.place c.node-node.result c.loop-last.last kept.sorted
    c.loop-last-test.true kept.within kept.there inside here c.far-next.result c.far-next.ensures.node c.far-next.ensures.below

pub reach-requires-clause-absent : goal.reach-requires-clause-absent
reach-requires-clause-absent c =
    let old = c.loop-last.self in
    let kept = c.loop-last.invariant in
    let inside : c.args.place < length old.ready.items = omega (arith, c.requires.within, kept.grows.longer) in
    let here : at old.ready.items c.args.place ≡ c.node-node.result = kept.grows.same c.args.place c.requires.within ∙ sym c.node-node.ensures.node in
    take_absent c.args.links.now old.depths.items old.waits.items old.ready.items c.args.place c.node-node.result c.loop-last.last kept.sorted
    c.loop-last-test.true kept.within kept.there inside here c.far-next.result c.far-next.ensures.node c.far-next.ensures.below

pub loop-last-preserved : goal.loop-last-preserved
loop-last-preserved c =
    let graph = c.args.links.now in
    let old = c.loop-last.self in
    let new = c.reach.new.self in
    let kept = c.loop-last.invariant in
    let last = c.loop-last.last in
    let count = c.args.place in
    let node = c.node-node.result in
    let next = c.far-next.result in
    let before = c.next-last.result in
    let inside : count < length old.ready.items = omega (arith, c.requires.within, kept.grows.longer) in
    let here : at old.ready.items count ≡ node = kept.grows.same count c.requires.within ∙ sym c.node-node.ensures.node in
    let some : 0 < last = c.loop-last-test.true in
    let is_last : last ≡ last - 1 + 1 = omega (arith, some) in
    let is_before : IsLast Out graph.edges (last - 1) node before =
    subst (λ (x : ℕ). IsLast Out graph.edges (last - 1) x before) (kept.there (last - 1) is_last) c.next-last.ensures in
    let grows : Grows old.ready new.ready = grows_maybe old.ready new.ready next (at old.waits.items next) c.reach.ensures.bound c.reach.ensures.ready c.reach.ensures.same in
    record {
      grows = grows_twice c.args.self.now.ready old.ready new.ready kept.grows grows;
      within = omega (arith, is_before.within, kept.within);
      there = is_before.there;
      deep =
          taken_depth graph old.depths.items old.waits.items old.ready.items count node last kept.sorted some kept.within kept.there inside here next
          c.far-next.ensures.node c.far-next.ensures.below new.ready.items c.reach.ensures.ready c.reach.ensures.same grows.same (c.index.result.now + 1)
          kept.deep kept.shallow before is_before new.depths.items c.reach.ensures.depths;
      shallow = kept.shallow;
      sorted =
          taken_sorted graph old.depths.items old.waits.items old.ready.items count node last kept.sorted some kept.within kept.there inside here next
          c.far-next.ensures.node c.far-next.ensures.below new.ready.items c.reach.ensures.ready c.reach.ensures.same grows.same (c.index.result.now + 1)
          kept.deep kept.shallow before is_before new.depths.items new.waits.items c.reach.ensures.depths c.reach.ensures.waits;
    }

pub returns-clause-sorted : goal.returns-clause-sorted
returns-clause-sorted c =
    let edges = c.args.links.now.edges in
    let items = c.loop-last.self.ready.items in
    let none : c.loop-last.last ≡ 0 = omega arith in
    sorted_same c.args.links.now c.loop-last.self.depths.items c.loop-last.self.waits.items items (left_amid edges items c.args.place 0)
    (left_after edges items (c.args.place + 1)) (c.args.place + 1) (c.args.place + 1)
    (subst (λ (last : ℕ). AreSorted c.args.links.now c.loop-last.self.depths.items c.loop-last.self.waits.items items (left_amid edges items c.args.place last) (c.args.place + 1)) none c.loop-last.invariant.sorted)
    (λ place _. amid_all edges items c.args.place place) (omega arith)
