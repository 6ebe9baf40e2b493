-- Small splits of `skip`.
use Rattle.std.specs.Prelude.{zero, suc}
use Rattle.std.proofs.Common.{refl, arith}
use Rattle.gos_types.specs.Types.{Com}
use Rattle.gos_model.specs.Terms as terms
use Rattle.gos_realises.specs.realises.OtherPlans.{empty_plan}
use Rattle.gos_sharing.specs.ground_types.Joints.{GroundResultIsJoined}
use Rattle.gos_terms.specs.stages.SmallInside.{BothHaveShares, UnboundIsNotSplit, EmptyIsNone}

pub both_have_shares : BothHaveShares
both_have_shares = (refl, refl, refl)

pub unbound_is_not_split : UnboundIsNotSplit
unbound_is_not_split ((zero, lt, e), rest) = omega (arith, e)
unbound_is_not_split ((suc n, lt, e), rest) = omega (arith, lt)

pub empty_is_none : GroundResultIsJoined → EmptyIsNone
empty_is_none joined are =
    let (j, (k, within, is), stands) = joined Com empty_plan terms.Skip tt (are 0 (0, omega arith, refl)) 0 (omega arith) in omega (arith, within)
