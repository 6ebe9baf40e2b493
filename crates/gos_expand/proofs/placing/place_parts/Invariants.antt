use Rattle.std.proofs.Common.{take}
use Rattle.gos_plan.specs.Seen.{plan_of}
use Rattle.gos_expand.specs.Blocks.{blocks}
use Rattle.gos_expand.specs.inner.Tokens.{Places}
use Rattle.gos_expand.specs.Laid.{part_cells}
use Rattle.gos_expand.specs.inner.Numbering.{laying_in}
use Rattle.gos_expand.proofs.placing.place_parts.Given as goal

-- the cells of the parts so far, each in a region of its own
abbrev pub invariant-loop-index : goal.invariant-loop-index
invariant-loop-index l = Places l.initial.pool l.pool (blocks (part_cells (laying_in l.numbering) (plan_of l.plan)) 0 (take l.index (plan_of l.plan).parts)) l.index
