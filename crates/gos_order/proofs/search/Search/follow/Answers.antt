use Rattle.std.proofs.Common.{◌≡◌, ◌⊎◌, ◌<◌, ◌+◌, ◌-◌, ℕ, subst, arith, length, true}
use Rattle.gos_order.specs.inner.NodeLists.{IsIn}
use Rattle.gos_order.specs.inner.Chains.{near_at, far_at, IsLast}
use Rattle.gos_order.specs.inner.Searches.{IsDone, IsWanted}
use Rattle.gos_order.specs.inner.Tasks.{task_of}
use Rattle.gos_order.proofs.SearchLemmas.{AreDone, grows_not, grows_twice, in_grown, met_here, held_here, done_none, done_more, done_all}
use Rattle.gos_order.proofs.search.Search.follow.Goals as goal

pub loop-last-init : goal.loop-last-init
loop-last-init c = record {
  grows = grows_not c.args.reached.now;
  held = λ start held. held;
  within = c.last-last.ensures.within;
  there = c.last-last.ensures.there;
  done = done_none (task_of c.args.self.now) c.args.reached.now.items c.args.node c.last-last.result c.last-last.ensures;
}

pub returns-then-has-clause-met : goal.returns-then-has-clause-met
returns-then-has-clause-met c = λ _ start held.
    let task = task_of c.args.self.now in
    let place = c.loop-last.last - 1 in
    let is_last : c.loop-last.last ≡ place + 1 = omega arith in
    let within : place < length task.edges = omega (arith, c.loop-last.invariant.within) in
    let met : IsIn task.apart c.far-next.result = c.has.ensures.0 c.if-has.true in
    met_here task c.loop-last.reached c.loop-last.reached c.args.node place
    (in_grown c.args.reached.now c.loop-last.reached c.args.node c.loop-last.invariant.grows c.requires.among) within
    (c.loop-last.invariant.there place is_last) start (c.loop-last.invariant.held start held)
    (subst (λ (x : ℕ). IsIn task.apart x) c.far-next.ensures.node met)

pub loop-last-preserved : goal.loop-last-preserved
loop-last-preserved c =
    let task = task_of c.args.self.now in
    let old = c.loop-last.reached in
    let new = c.reach.new.reached in
    let node = c.args.node in
    let place = c.loop-last.last - 1 in
    let last = c.next-last.result in
    let kept = c.loop-last.invariant in
    let is_last : c.loop-last.last ≡ place + 1 = omega arith in
    let within : place < length task.edges = omega (arith, kept.within) in
    let there : near_at task.way task.edges place ≡ node = kept.there place is_last in
    let among : IsIn old.items node = in_grown c.args.reached.now old node kept.grows c.requires.among in
    let is_next : c.far-next.result ≡ far_at task.way task.edges place = c.far-next.ensures.node in
    let other : IsIn task.apart c.far-next.result → ⊥ = λ h. let e : c.has.result ≡ true = c.has.ensures.1 h in cc in
    let is_before : IsLast task.way task.edges place node last =
    subst (λ (x : ℕ). IsLast task.way task.edges place x last) there c.next-last.ensures in
    record {
      grows = grows_twice c.args.reached.now old new kept.grows c.reach.ensures.grows;
      held = λ start held.
          held_here task old new node place among within there start (kept.held start held)
          (subst (λ (x : ℕ). IsIn task.apart x → ⊥) is_next other)
          (subst (λ (next : ℕ). (x : ℕ) → IsIn new.items x → IsIn old.items x ⊎ ((next ≡ x) × IsWanted task next)) is_next c.reach.ensures.only);
      within = omega (arith, is_before.within, within);
      there = is_before.there;
      done =
          done_more task old new node place last c.reach.ensures.grows
          (subst (λ (k : ℕ). AreDone task old.items node k) is_last kept.done) is_before
          (subst (λ (x : ℕ). IsDone task new.items x) is_next (record { other = other; reached = c.reach.ensures.reached }));
    }

pub returns-clause-all : goal.returns-clause-all
returns-clause-all c = λ _.
    let none : c.loop-last.last ≡ 0 = omega arith in
    let task = task_of c.args.self.now in
    done_all task c.loop-last.reached.items c.args.node
    (subst (λ (k : ℕ). AreDone task c.loop-last.reached.items c.args.node k) none c.loop-last.invariant.done)
