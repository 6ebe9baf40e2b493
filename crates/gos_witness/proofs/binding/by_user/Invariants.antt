use Rattle.std.proofs.Common.{◌≡◌, ◌<◌, ℕ, length}
use Rattle.gos_witness.specs.inner.Built.{of_user, list_at}
use Rattle.gos_witness.proofs.binding.by_user.Given as goal

-- the lists of the users so far
abbrev pub invariant-loop-user : goal.invariant-loop-user
invariant-loop-user l = (length l.lists.items ≡ l.user) × ((u : ℕ) → u < l.user → list_at l.lists.items u ≡ of_user u l.binds)
