-- The positions of the ends of two plans that are joined.
use Rattle.std.proofs.Common.{arith}
use Rattle.gos_link.specs.SmallOrders.{FirstComesFirst, SecondIsNotFirst}

pub first_comes_first : FirstComesFirst
first_comes_first = (omega arith, (omega arith, (omega arith, (omega arith, (omega arith, tt)))))

pub second_is_not_first : SecondIsNotFirst
second_is_not_first (first, (second, (third, rest))) = omega (arith, third)
