use Rattle.std.proofs.Common.{◌≡◌, ◌≤◌, ◌<◌, ℕ, length, drop}
use Rattle.gos_ties.specs.inner.Joined.{far_at}
use Rattle.gos_ties.proofs.JoinLemmas.{AreClassed}
use Rattle.gos_ties.proofs.joining.far_ends.Given as goal

-- the far numbers by the bonds from k on
abbrev pub invariant-loop-k : goal.invariant-loop-k
invariant-loop-k l =
    (l.k ≤ length l.bonds) × (length l.far.items ≡ l.n) × ((p : ℕ) → p < l.n → far_at l.far.items p < l.n)
    × AreClassed (drop l.k l.bonds) (far_at l.far.items)

abbrev pub decreases-loop-k : goal.decreases-loop-k
decreases-loop-k l = l.k
