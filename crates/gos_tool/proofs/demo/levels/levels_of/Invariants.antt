use Rattle.std.proofs.Common.{◌≡◌, ◌≤◌, ◌<◌, ℕ}
use Rattle.std.specs.Fmt.{decimal}
use Rattle.gos_tool.proofs.demo.levels.levels_of.Given as goal

-- the word writes none of the numbers so far
abbrev pub invariant-loop-number : goal.invariant-loop-number
invariant-loop-number l = (n : ℕ) → 1 ≤ n → n < l.number → l.word ≡ decimal n → ⊥
