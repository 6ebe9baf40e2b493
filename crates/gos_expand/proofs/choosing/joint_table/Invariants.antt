use Rattle.std.proofs.Common.{take}
use Rattle.gos_plan.specs.Seen.{plan_of}
use Rattle.gos_expand.specs.inner.Arrivals.{AreAt}
use Rattle.gos_expand.specs.inner.Choosing.{joint_among}
use Rattle.gos_expand.proofs.choosing.joint_table.Given as goal

-- the joints so far are at their ends
abbrev pub invariant-loop-index : goal.invariant-loop-index
invariant-loop-index l = AreAt (plan_of l.plan) (joint_among 0 (take l.index (plan_of l.plan).joints)) l.table
