use Rattle.std.proofs.Common.{◌≡◌, ◌≤◌, ℕ, length}
use Rattle.gos_ties.specs.inner.Joined.{far_at}
use Rattle.gos_ties.proofs.joining.alone.Given as goal

-- each number so far is its own
abbrev pub invariant-loop-number : goal.invariant-loop-number
invariant-loop-number l = (l.number ≤ l.n) × (length l.far.items ≡ l.number) × ((p : ℕ) → far_at l.far.items p ≡ p)
