-- Small unions and flat wirings.
use Rattle.std.specs.Prelude.{◌≡◌, ℕ, zero, suc, ◌+◌, [], ◌∷◌, true, false, Some, None, slice_get}
use Rattle.std.proofs.Common.{refl, ◌∙◌, ap, subst, arith, inl}
use Rattle.gos_types.specs.Types.{Com}
use Rattle.gos_plan.specs.Kinds.{Contact, contacts_of}
use Rattle.gos_plan.specs.Plans.{PartEnd, ResultEnd, Plan, IsRight}
use Rattle.gos_plan.specs.Joining.{place, Link}
use Rattle.gos_plan.specs.SmallPlans.{skip_plan}
use Rattle.gos_plan.proofs.SmallPlanLemmas.{skip_is_right}
use Rattle.gos_realises.specs.realises.Links.{StandsIn, LinksFit}
use Rattle.gos_realises.specs.realises.Wirings.{link}
use Rattle.gos_realises.proofs.joined.JoiningLemmas.{fitting_is_joined}
use Rattle.gos_joining.specs.webs.Webs.{Of, Within, here, along, own_web}
use Rattle.gos_joining.proofs.webs.WebLemmas.{right_is_of_its_web}
use Rattle.gos_joining.specs.unions.SmallUnions.{alone, SkipHasUnion, UnjoinedIsNoUnion, BeyondStandsNowhere, TwiceAppliedIs, HiddenIsNotBare, LoneIsBare}
use Rattle.gos_joining.proofs.unions.UnionLemmas.{joining_is_union}
use Rattle.gos_joining.proofs.unions.FlatFitLemmas.{links_stand}

alone_fits : LinksFit alone
alone_fits = record { right = rights; each = λ k l at. absurd (cc at); once = λ j k l m a at_j at_k one other. absurd (cc at_j); left = left }
  where
    rights : (k : ℕ) (p : Plan) → slice_get alone.plans k ≡ Some p → IsRight p
    rights zero p at = let same : skip_plan ≡ p = cc at in subst IsRight same skip_is_right
    rights (suc k) p at = absurd (cc at)

    left : (h : ℕ) (c : Contact) → slice_get (contacts_of Com) h ≡ Some c
        → (slice_get (contacts_of Com) (0 + h) ≡ Some c)
        × ((k : ℕ) (l : Link) → slice_get [] k ≡ Some l → StandsIn (place 0 (ResultEnd (0 + h))) l → ⊥)
    left h c there =
        (let zeros : 0 + h ≡ h = omega arith in ap (slice_get (contacts_of Com)) zeros ∙ there, λ k l at stands. absurd (cc at))

pub skip_has_union : SkipHasUnion
skip_has_union =
    let (r, joined) = fitting_is_joined alone alone_fits in (
      r,
      joining_is_union alone (own_web skip_plan ∷ []) r (right_is_of_its_web skip_plan skip_is_right, tt) (links_stand alone alone_fits) joined.joining,
      joined.joining.parts,
    )

pub unjoined_is_no_union : UnjoinedIsNoUnion
unjoined_is_no_union is =
    let (k, small, e) =
    (is.joints (ResultEnd 0) (PartEnd 0 0)).1 (
      0,
      0,
      refl,
      refl,
      along (Within 0 (Of (ResultEnd 0))) (Within 0 (Of (PartEnd 0 0))) (Within 0 (Of (PartEnd 0 0))) (inl (0, omega arith, refl))
          (here (Within 0 (Of (PartEnd 0 0)))),
    )
    in
    omega (arith, small)

pub beyond_stands_nowhere : BeyondStandsNowhere
beyond_stands_nowhere stand =
    let (c, there) = (stand (link 0 (ResultEnd 0) 1 (ResultEnd 0)) (0, omega arith, refl)).1 in
    let none : None ≡ Some c = there in
    absurd (cc none)

pub twice_applied_is : TwiceAppliedIs
twice_applied_is = refl

pub hidden_is_not_bare : HiddenIsNotBare
hidden_is_not_bare bare = let no_joint : false ≡ true = bare.0 in cc no_joint

pub lone_is_bare : LoneIsBare
lone_is_bare = (refl, λ k l at stands. absurd (cc at))
