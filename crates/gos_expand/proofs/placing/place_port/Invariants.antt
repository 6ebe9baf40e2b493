use Rattle.std.proofs.Common.{◌≡◌, take}
use Rattle.gos_plan.specs.Seen.{plan_of}
use Rattle.gos_expand.specs.Blocks.{blocks}
use Rattle.gos_expand.specs.inner.Tokens.{Places}
use Rattle.gos_expand.specs.Laid.{shake_cells}
use Rattle.gos_expand.specs.inner.Outers.{outer_at}
use Rattle.gos_expand.specs.inner.Numbering.{laying_in}
use Rattle.gos_expand.proofs.placing.place_port.Given as goal

-- the cells of the handshakes so far
abbrev pub invariant-loop-shake : goal.invariant-loop-shake
invariant-loop-shake l =
    Places l.initial.pool l.pool (blocks (shake_cells (laying_in l.numbering) (plan_of l.plan) (outer_at (plan_of l.plan) l.place)) 0 (take l.shake (outer_at (plan_of l.plan) l.place).contacts)) 0
    × (l.region ≡ l.initial.region)
