use Rattle.std.proofs.Common.{◌≡◌, take}
use Rattle.gos_plan.specs.Seen.{plan_of}
use Rattle.gos_expand.specs.Blocks.{blocks}
use Rattle.gos_expand.specs.inner.Tokens.{Places}
use Rattle.gos_expand.specs.Laid.{joint_cells}
use Rattle.gos_expand.specs.inner.Numbering.{laying_in}
use Rattle.gos_expand.proofs.placing.place_joints.Given as goal

-- the registers of the joints so far
abbrev pub invariant-loop-index : goal.invariant-loop-index
invariant-loop-index l =
    Places l.initial.pool l.pool (blocks (joint_cells (laying_in l.numbering) (plan_of l.plan)) 0 (take l.index (plan_of l.plan).joints)) 0
    × (l.region ≡ l.initial.region)
