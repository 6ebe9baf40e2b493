use Rattle.std.proofs.Common.{ℕ, ◌≡◌, ◌≤◌, ◌+◌, ◌*◌, take}
use Rattle.gos_plan.specs.Seen.{plan_of}
use Rattle.gos_expand.specs.Blocks.{total}
use Rattle.gos_expand.specs.Gates.{Making}
use Rattle.gos_expand.specs.Starts.{chosen, joint_size}
use Rattle.gos_expand.specs.inner.Numbering.{laying}
use Rattle.gos_expand.specs.inner.Arrivals.{AreAt, start_by_joints}
use Rattle.gos_expand.proofs.numbering.number_joints.Given as goal

-- the origins by the joints so far, and what comes behind these
abbrev pub invariant-loop-index : goal.invariant-loop-index
invariant-loop-index l =
    ((making : ℕ → Making) → AreAt (plan_of l.plan) (start_by_joints (laying (chosen l.keep) making) (plan_of l.plan) 0 l.from (take l.index (plan_of l.plan).joints)) l.arrivals)
    × ((making : ℕ → Making) → l.next ≡ l.from + total (joint_size (laying (chosen l.keep) making) (plan_of l.plan)) 0 (take l.index (plan_of l.plan).joints))
    × (l.next ≤ l.from + 4 * l.index)
