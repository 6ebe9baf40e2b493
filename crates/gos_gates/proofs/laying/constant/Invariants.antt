use Rattle.std.proofs.Common.{◌≡◌, ◌++◌, ◌-◌, map}
use Rattle.gos_gates.specs.Bits.{bits_of}
use Rattle.gos_gates.specs.inner.Adding.{one_bit}
use Rattle.gos_gates.proofs.laying.constant.Given as goal

-- the literals so far, and those of the bits that are left
abbrev pub invariant-loop : goal.invariant-loop
invariant-loop l = map one_bit (bits_of l.width l.value) ≡ l.bits.items ++ map one_bit (bits_of (l.width - l.counter) l.rest)
