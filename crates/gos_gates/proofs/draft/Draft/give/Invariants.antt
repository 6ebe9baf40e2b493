use Rattle.std.proofs.Common.{◌≡◌}
use Rattle.gos_gates.specs.Lowered.{literals_from}
use Rattle.gos_gates.proofs.draft.Draft.give.Given as goal

-- the literals so far
abbrev pub invariant-loop-i : goal.invariant-loop-i
invariant-loop-i l = l.bits.items ≡ literals_from l.self-inside.base l.i
