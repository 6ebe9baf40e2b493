use Rattle.std.proofs.Common.{◌≡◌, ℕ, ◌<◌, get_or}
use Rattle.gos_pulse.proofs.entry_line.dot_of.Given as goal

-- no dot so far
abbrev pub invariant-loop-at : goal.invariant-loop-at
invariant-loop-at l = (k : ℕ) → k < l.at → get_or l.word k 0 ≡ 46 → ⊥
