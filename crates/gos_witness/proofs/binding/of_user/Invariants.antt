use Rattle.std.proofs.Common.{◌≡◌, ◌++◌, drop}
use Rattle.gos_witness.specs.inner.Built.{of_user}
use Rattle.gos_witness.proofs.binding.of_user.Given as goal

-- those so far, and those of the rest
abbrev pub invariant-loop-bind : goal.invariant-loop-bind
invariant-loop-bind l = l.own.items ++ of_user l.user (drop l.bind-index l.binds) ≡ of_user l.user l.binds
