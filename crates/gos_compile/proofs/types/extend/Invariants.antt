use Rattle.std.proofs.Common.{◌≡◌, ℕ, length, ◌+◌, ◌-◌}
use Rattle.gos_compile.specs.inner.Tables.{types_at}
use Rattle.gos_compile.proofs.types.extend.Given as goal

-- each number has the type that it had
abbrev pub invariant-loop-types : goal.invariant-loop-types
invariant-loop-types l = (k : ℕ) → types_at l.types.items k ≡ types_at l.initial.types.items k

abbrev pub decreases-loop-types : goal.decreases-loop-types
decreases-loop-types l = l.number + 1 - length l.types.items
