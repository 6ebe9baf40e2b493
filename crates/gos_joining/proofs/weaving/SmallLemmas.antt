-- A Skip by way of a number, and two Skips that one number meets.
use Rattle.std.specs.Prelude.{◌≡◌, ℕ, ◌+◌, ◌≤◌, [], Some}
use Rattle.std.proofs.Common.{refl, sym, ap, arith, inl}
use Rattle.gos_plan.specs.Kinds.{Contact, asks, serves}
use Rattle.gos_plan.specs.Plans.{End, PartEnd, ImportEnd, ResultEnd, Joint, contact_at}
use Rattle.gos_plan.specs.SmallPlans.{skip_plan}
use Rattle.gos_plan.proofs.JointLemmas.{one_joint, contained}
use Rattle.gos_joining.specs.webs.Webs.{Dot, Of, Number, Node, Within, Way, here, along, joint}
use Rattle.gos_joining.specs.weaving.Woven.{meetings}
use Rattle.gos_joining.specs.weaving.SmallWoven.{numbered_web, forked_web, two_skips, NumberedIsThin, NumberedIsPlain, ForkedIsNotThin, ForkedIsNotPlain, ForkedHasNoPlan}
use Rattle.gos_joining.proofs.weaving.ThinLemmas.{thin_is_plain}
use Rattle.gos_joining.proofs.weaving.DotLemmas.{once_at_most}

few : (d : Dot) → meetings d numbered_web.ties ≤ 2
few (Of e) =
    let first = once_at_most (Of e) (Of (ResultEnd 0)) in let last = once_at_most (Of e) (Of (PartEnd 0 0)) in omega (arith, first, last)
few (Number n h) = let one = once_at_most (Number n h) (Number 0 0) in omega (arith, one)
few (Node n h) = omega arith
few (Within k d) = omega arith

at_ends : (e : End) (k : Contact) → contact_at skip_plan e ≡ Some k → meetings (Of e) numbered_web.ties ≤ 1
at_ends (PartEnd i h) k at = let one = once_at_most (Of (PartEnd i h)) (Of (PartEnd 0 0)) in omega (arith, one)
at_ends (ImportEnd i h) k at = omega arith
at_ends (ResultEnd h) k at = let one = once_at_most (Of (ResultEnd h)) (Of (ResultEnd 0)) in omega (arith, one)

abbrev end_in : Dot → End
end_in (Of e) = e
end_in (Number n h) = ResultEnd 0
end_in (Node n h) = ResultEnd 0
end_in (Within k d) = ResultEnd 0

pub numbered_is_thin : NumberedIsThin
numbered_is_thin = record { points = few; ends = at_ends; apart = λ d e k l at_d at_e same. ap end_in same }

pub numbered_is_plain : NumberedIsPlain
numbered_is_plain = thin_is_plain numbered_web skip_plan numbered_is_thin

pub forked_is_not_thin : ForkedIsNotThin
forked_is_not_thin thin = let three = thin.points (Number 0 0) in let bad : 3 ≤ 2 = three in omega (arith, bad)

-- the ways
to_first : Way forked_web.ties (Of (ResultEnd 0)) (Of (PartEnd 0 0))
to_first =
    along (Of (ResultEnd 0)) (Number 0 0) (Of (PartEnd 0 0)) (inl (1, omega arith, refl))
    (along (Number 0 0) (Of (PartEnd 0 0)) (Of (PartEnd 0 0)) (inl (2, omega arith, refl)) (here (Of (PartEnd 0 0))))

to_second : Way forked_web.ties (Of (ResultEnd 0)) (Of (PartEnd 1 0))
to_second =
    along (Of (ResultEnd 0)) (Number 0 0) (Of (PartEnd 1 0)) (inl (1, omega arith, refl))
    (along (Number 0 0) (Of (PartEnd 1 0)) (Of (PartEnd 1 0)) (inl (0, omega arith, refl)) (here (Of (PartEnd 1 0))))

abbrev part_of : End → ℕ
part_of (PartEnd i h) = i
part_of (ImportEnd i h) = 2
part_of (ResultEnd h) = 2

apart : (d e : End) → part_of d + 1 ≤ part_of e → d ≡ e → ⊥
apart d e low same = let is = ap part_of same in omega (arith, low, is)

pub forked_is_not_plain : ForkedIsNotPlain
forked_is_not_plain plain =
    apart (PartEnd 0 0) (PartEnd 1 0) (omega arith)
    (plain (ResultEnd 0) (PartEnd 0 0) (PartEnd 1 0) (asks 0 0) (serves 0 0) (serves 0 0) refl refl refl
    (λ same. apart (PartEnd 0 0) (ResultEnd 0) (omega arith) (sym same))
    (λ same. apart (PartEnd 1 0) (ResultEnd 0) (omega arith) (sym same))
    to_first to_second)

pub forked_has_no_plan : ForkedHasNoPlan
forked_has_no_plan js is =
    apart (PartEnd 0 0) (PartEnd 1 0) (omega arith)
    (ap (λ (j : Joint). j.serving)
    (one_joint (record two_skips { joints = js }) [] js (joint (ResultEnd 0) (PartEnd 0 0)) (joint (ResultEnd 0) (PartEnd 1 0)) (ResultEnd 0) is.right
    (contained js (joint (ResultEnd 0) (PartEnd 0 0)) ((is.joints (ResultEnd 0) (PartEnd 0 0)).1 (0, 0, refl, refl, to_first)))
    (contained js (joint (ResultEnd 0) (PartEnd 1 0)) ((is.joints (ResultEnd 0) (PartEnd 1 0)).1 (0, 0, refl, refl, to_second)))
    refl refl))
