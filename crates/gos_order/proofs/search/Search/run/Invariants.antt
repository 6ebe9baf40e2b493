use Rattle.std.proofs.Common.{◌≤◌, ◌-◌, ℕ, length}
use Rattle.gos_order.specs.inner.Searches.{AreHeld, Grows}
use Rattle.gos_order.specs.inner.Tasks.{task_of}
use Rattle.gos_order.proofs.SearchLemmas.{AreFollowedBefore}
use Rattle.gos_order.proofs.search.Search.run.Given as goal

-- the edges at the nodes so far are followed
abbrev pub invariant-loop-place : goal.invariant-loop-place
invariant-loop-place l =
    record {
      grows : Grows l.initial.reached l.reached;
      held : (start : ℕ) → AreHeld (task_of l.self) start l.initial.reached.items → AreHeld (task_of l.self) start l.reached.items;
      within : l.place ≤ length l.reached.items;
      followed : AreFollowedBefore (task_of l.self) l.reached.items l.place;
    }

abbrev pub decreases-loop-place : goal.decreases-loop-place
decreases-loop-place l = l.reached.bound - l.place
