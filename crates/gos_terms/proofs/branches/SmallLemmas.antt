-- Children of one branch, and what are none.
use Rattle.std.proofs.Common.{◌≡◌, refl, sym, ◌∙◌, ap, arith}
use Rattle.gos_terms.specs.stages.Folding.{asked}
use Rattle.gos_terms.specs.branches.SmallCovers.{OneIsItsChild, NoneIsLeftOut, NoneIsTwice}

pub one_is_its_child : OneIsItsChild
one_is_its_child types i j ss env ns b pl p = (refl, tt)

pub none_is_left_out : NoneIsLeftOut
none_is_left_out types i j ss env ns b none = none

pub none_is_twice : NoneIsTwice
none_is_twice types i j ss env ns a b e (one, (other, rest)) =
    let same : 0 ≡ 1 = ap asked (sym one ∙ other) in absurd (omega (arith, same))
