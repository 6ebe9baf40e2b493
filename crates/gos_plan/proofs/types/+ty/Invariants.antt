use Rattle.std.proofs.Common.{◌+◌, ◌-◌, ◌*◌}
use Rattle.gos_plan.proofs.types.+ty.Given as goal

abbrev pub decreases-fork : goal.decreases-fork
decreases-fork l = 3 * (64 - l.before)

abbrev pub decreases-operands : goal.decreases-operands
decreases-operands l = 3 * (64 - l.before) + 1

abbrev pub decreases-ty : goal.decreases-ty
decreases-ty l = 3 * (64 - l.before) + 2
