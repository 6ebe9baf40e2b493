use Rattle.std.proofs.Common.{◌≡◌}
use Rattle.gos_expand.specs.Fast.{numbers_from}
use Rattle.gos_expand.proofs.orders.numbers.Given as goal

-- the numbers so far
abbrev pub invariant-loop-number : goal.invariant-loop-number
invariant-loop-number l = l.numbers.items ≡ numbers_from 0 l.number
