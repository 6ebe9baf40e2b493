use Rattle.std.proofs.Common.{◌≡◌, take, map}
use Rattle.gos_plan.specs.Seen.{plan_of, end_of}
use Rattle.gos_expand.specs.Blocks.{blocks}
use Rattle.gos_expand.specs.inner.Tokens.{Places}
use Rattle.gos_expand.specs.Laid.{loose_cells}
use Rattle.gos_expand.proofs.placing.place_loose.Given as goal

-- the constants of the ends so far
abbrev pub invariant-loop-index : goal.invariant-loop-index
invariant-loop-index l =
    Places l.initial.pool l.pool (blocks (loose_cells (plan_of l.plan)) 0 (take l.index (map end_of l.numbering.loose.items))) 0
    × (l.region ≡ l.initial.region)
