use Rattle.std.proofs.Common.{◌≡◌, ◌-◌, ℕ, List, length}
use Rattle.gos_link.specs.inner.Served.{lateness, AreAbove}
use Rattle.gos_link.specs.inner.Tops.{AreTops, top_at}
use Rattle.gos_link.proofs.services.top_of.Given as goal

-- the instance has the top of the first
abbrev pub invariant-loop-number : goal.invariant-loop-number
invariant-loop-number l =
    (n : ℕ) (tops : List ℕ) → AreTops n l.services tops → AreAbove l.services tops l.above → top_at tops l.at ≡ top_at tops l.instance

abbrev pub decreases-loop-number : goal.decreases-loop-number
decreases-loop-number l = length l.services - lateness l.services l.at
