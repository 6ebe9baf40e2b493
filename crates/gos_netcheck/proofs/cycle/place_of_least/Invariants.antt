use Rattle.std.proofs.Common.{ℕ, ◌<◌, ◌≤◌, length, get_or}
use Rattle.gos_netcheck.proofs.TurnLemmas.{no_net}
use Rattle.gos_netcheck.proofs.cycle.place_of_least.Given as goal

-- no net so far is less
abbrev pub invariant-loop-i : goal.invariant-loop-i
invariant-loop-i l =
    (l.least < length l.nets) × ((k : ℕ) → k < l.i → (get_or l.nets l.least no_net).0 ≤ (get_or l.nets k no_net).0)
