use Rattle.std.proofs.Common.{arith, subst}
use Rattle.gos_types.specs.Types.{type_of}
use Rattle.gos_plan.specs.Ranges.{IsSmall, IsInRange}
use Rattle.gos_expand.proofs.ShareLemmas.{size_few}
use Rattle.gos_expand.proofs.places.shakes.Goals as goal

pub count-requires : goal.count-requires
count-requires c =
    let small : IsSmall c.in-Share.ty = subst IsInRange c.in-Share.is c.requires in
    let few = size_few (type_of c.in-Share.ty) in
    let short = small.1 in
    omega (arith, few, short)
