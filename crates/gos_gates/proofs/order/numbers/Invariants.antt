use Rattle.std.proofs.Common.{◌≡◌}
use Rattle.gos_gates.specs.inner.Orders.{numbers_from}
use Rattle.gos_gates.proofs.order.numbers.Given as goal

-- the numbers so far
abbrev pub invariant-loop-n : goal.invariant-loop-n
invariant-loop-n l = l.numbers.items ≡ numbers_from 0 l.n
