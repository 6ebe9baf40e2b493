use Rattle.std.proofs.Common.{◌≡◌, ◌≤◌, ◌+◌, ℕ, length}
use Rattle.gos_order.specs.inner.Chains.{near_at}
use Rattle.gos_order.specs.inner.Searches.{AreHeld, Grows}
use Rattle.gos_order.specs.inner.Tasks.{task_of}
use Rattle.gos_order.proofs.SearchLemmas.{AreDone}
use Rattle.gos_order.proofs.search.Search.follow.Given as goal

-- the edges at the node behind the last one are followed
abbrev pub invariant-loop-last : goal.invariant-loop-last
invariant-loop-last l =
    record {
      grows : Grows l.initial.reached l.reached;
      held : (start : ℕ) → AreHeld (task_of l.self) start l.initial.reached.items → AreHeld (task_of l.self) start l.reached.items;
      within : l.last ≤ length l.self.links.now.edges;
      there : (place : ℕ) → l.last ≡ place + 1 → near_at l.self.way l.self.links.now.edges place ≡ l.node;
      done : AreDone (task_of l.self) l.reached.items l.node l.last;
    }

abbrev pub decreases-loop-last : goal.decreases-loop-last
decreases-loop-last l = l.last
