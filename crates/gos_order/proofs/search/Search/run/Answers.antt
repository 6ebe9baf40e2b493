use Rattle.std.proofs.Common.{refl, ◌<◌, ℕ, subst, arith, length}
use Rattle.gos_order.specs.inner.Searches.{IsFollowed}
use Rattle.gos_order.specs.inner.Tasks.{task_of}
use Rattle.gos_order.proofs.SearchLemmas.{grows_twice, followed_more}
use Rattle.gos_order.proofs.search.Search.run.Goals as goal

pub loop-place-preserved : goal.loop-place-preserved
loop-place-preserved c =
    let task = task_of c.args.self.now in
    let old = c.loop-place.reached in
    let new = c.follow.new.reached in
    let kept = c.loop-place.invariant in
    let grows = c.in-All.ensures.grows in
    let within : c.loop-place.place < length old.items = omega (arith, c.len.ensures.count) in
    record {
      grows = grows_twice c.args.reached.now old new kept.grows grows;
      held = λ start held. c.in-All.ensures.held start (kept.held start held);
      within = omega (arith, within, grows.longer);
      followed =
          followed_more task old new c.loop-place.place within grows kept.followed
          (subst (λ (x : ℕ). IsFollowed task new.items x) c.node-node.ensures.node (c.in-All.ensures.all refl));
    }

pub returns-in-Met-clause-held : goal.returns-in-Met-clause-held
returns-in-Met-clause-held c = λ start held. c.in-Met.ensures.held start (c.loop-place.invariant.held start held)

pub returns-in-Met-clause-met : goal.returns-in-Met-clause-met
returns-in-Met-clause-met c = λ _ start held. c.in-Met.ensures.met refl start (c.loop-place.invariant.held start held)

pub returns-in-Stopped-clause-held : goal.returns-in-Stopped-clause-held
returns-in-Stopped-clause-held c = λ start held. c.in-Stopped.ensures.held start (c.loop-place.invariant.held start held)
