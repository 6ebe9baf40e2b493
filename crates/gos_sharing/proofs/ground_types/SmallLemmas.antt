-- Small plans of a variable, joined at both handshakes and at one.
use Rattle.std.specs.Prelude.{◌≡◌, zero, suc, false, true}
use Rattle.std.proofs.Common.{refl, sym, subst, arith}
use Rattle.gos_plan.specs.Plans.{ImportEnd, ResultEnd, Joint, stands_in}
use Rattle.gos_joining.specs.webs.Webs.{joint}
use Rattle.gos_joining.specs.webs.Cutting.{StandsIn}
use Rattle.gos_sharing.specs.ground_types.SmallJoints.{only_read, only_written, NamedIsJoined, OnlyReadIsNone, OnlyWrittenIsNone}
use Rattle.gos_sharing.proofs.ground_types.VariableLemmas.{variable_is_joined}

pub named_is_joined : NamedIsJoined
named_is_joined zero small = (joint (ResultEnd 0) (ImportEnd 0 0), (0, omega arith, refl), refl)
named_is_joined (suc zero) small = (joint (ResultEnd 1) (ImportEnd 0 1), (1, omega arith, refl), refl)
named_is_joined (suc (suc j)) small = absurd (omega (arith, small))

not_written : StandsIn only_read (ResultEnd 1) → ⊥
not_written (j, (zero, small, at), stands) =
    let no : false ≡ true = subst (λ (x : Joint). stands_in (ResultEnd 1) x ≡ true) (sym at) stands in cc no
not_written (j, (suc k, small, at), stands) = omega (arith, small)

not_read : StandsIn only_written (ResultEnd 0) → ⊥
not_read (j, (zero, small, at), stands) =
    let no : false ≡ true = subst (λ (x : Joint). stands_in (ResultEnd 0) x ≡ true) (sym at) stands in cc no
not_read (j, (suc k, small, at), stands) = omega (arith, small)

pub only_read_is_none : OnlyReadIsNone
only_read_is_none m real = not_written (variable_is_joined 8 only_read m real 1 (omega arith))

pub only_written_is_none : OnlyWrittenIsNone
only_written_is_none m real = not_read (variable_is_joined 8 only_written m real 0 (omega arith))
