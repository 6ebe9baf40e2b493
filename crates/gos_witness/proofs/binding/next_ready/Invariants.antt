use Rattle.std.proofs.Common.{◌≡◌, ◌<◌, ℕ, false}
use Rattle.gos_witness.specs.inner.Built.{is_next}
use Rattle.gos_witness.proofs.binding.next_ready.Given as goal

-- none of the modules so far
abbrev pub invariant-loop-number : goal.invariant-loop-number
invariant-loop-number l = (u : ℕ) → u < l.number → is_next l.lists l.nodes u ≡ false
