use Rattle.std.proofs.Common.{◌≡◌, take}
use Rattle.gos_plan.specs.Seen.{plan_of}
use Rattle.gos_expand.specs.Blocks.{blocks}
use Rattle.gos_expand.specs.Starts.{taken_ports}
use Rattle.gos_expand.specs.inner.Tokens.{Places}
use Rattle.gos_expand.specs.Laid.{port_cells}
use Rattle.gos_expand.specs.inner.Numbering.{laying_in}
use Rattle.gos_expand.proofs.placing.place_imports.Given as goal

-- the cells of the ports so far
abbrev pub invariant-loop-index : goal.invariant-loop-index
invariant-loop-index l =
    Places l.initial.pool l.pool (blocks (port_cells (laying_in l.numbering) (plan_of l.plan)) 0 (take l.index (taken_ports 0 (plan_of l.plan).imports))) 0
    × (l.region ≡ l.initial.region)
