use Rattle.std.proofs.Common.{◌≡◌, ◌++◌, ◌≤◌}
use Rattle.gos_compile.specs.Wiring.{row}
use Rattle.gos_compile.proofs.points.add_row.Given as goal

-- the points so far
abbrev pub invariant-loop-shake : goal.invariant-loop-shake
invariant-loop-shake l = (l.shake ≤ l.n) × (l.points.items ≡ l.initial.points.items ++ row l.place 0 l.shake)
