use Rattle.std.proofs.Common.{◌≡◌, map, take}
use Rattle.gos_gates.specs.Lowered.{complement}
use Rattle.gos_gates.proofs.laying.complements.Given as goal

-- the complements so far
abbrev pub invariant-loop-literal : goal.invariant-loop-literal
invariant-loop-literal l = l.bits.items ≡ map complement (take l.literal-index l.literals)
