-- The plan of `skip` beside another Skip.
use Rattle.std.specs.Prelude.{◌≡◌, ℕ, zero, suc, List, ◌⊎◌, Some, None, Contains, slice_get}
use Rattle.std.proofs.Common.{refl, sym, ◌∙◌, ap, subst, arith, inl, inr}
use Rattle.gos_plan.specs.Kinds.{Part, Skip, Contact}
use Rattle.gos_plan.specs.Plans.{End, PartEnd, ImportEnd, ResultEnd, Joint, IsRight, contact_at}
use Rattle.gos_plan.specs.SmallPlans.{skip_plan}
use Rattle.gos_plan.proofs.SmallPlanLemmas.{skip_is_right}
use Rattle.gos_joining.specs.webs.Webs.{Of, Tie, tie, Way, here, along, joint, own_web}
use Rattle.gos_joining.proofs.webs.WebLemmas.{right_is_of_its_web}
use Rattle.gos_supplies.specs.unjoined.Beside.{placed, IsLoose, IsOwn, LiesIn}
use Rattle.gos_supplies.specs.unjoined.Homes.{AreHome}
use Rattle.gos_supplies.specs.unjoined.SmallBeside.{first_alone, first_part, skip_and_loose, home_of_first, SkipIsBeside, JoinedIsNotBeside, SkipIsHome, OtherIsNotHome}
use Rattle.gos_supplies.proofs.unjoined.HomeLemmas.{web_is_beside}

-- the one joint
only : (j : Joint) → Contains skip_plan.joints j → joint (ResultEnd 0) (PartEnd 0 0) ≡ j
only j (zero, small, e) = e
only j (suc k, small, e) = absurd (omega (arith, small))

-- the numbers are right with any joints
pub first_lies : (js : List Joint) → LiesIn first_part (record skip_and_loose { joints = js }) skip_plan
first_lies js =
    record {
      outcome = refl;
      parts = parts;
      numbers = numbers;
      imports = λ i x at. absurd (cc at);
      import_numbers = λ i j at. absurd (cc at);
    }
  where
    parts : (i : ℕ) (k : Part) → slice_get skip_plan.parts i ≡ Some k → (slice_get skip_and_loose.parts i ≡ Some k) × (first_alone i ≡ Some i)
    parts zero k at = (at, refl)
    parts (suc i) k at = absurd (cc at)

    numbers : (i j : ℕ) → first_alone i ≡ Some j → (j ≡ i) × ((k : Part) × (slice_get skip_plan.parts j ≡ Some k))
    numbers zero j at = (let same : zero ≡ j = cc at in (sym same, (Skip, ap (slice_get skip_plan.parts) (sym same))))
    numbers (suc i) j at = absurd (cc at)

pub both_right : IsRight skip_and_loose
both_right = (((0, 0, refl, refl), refl, refl), tt)

-- its web: the loose Skip is not at home
ends : (e : End) (k : Contact) → contact_at skip_plan e ≡ Some k → home_of_first (Of (placed first_part e)) ≡ Some (Of e)
ends (PartEnd zero h) k at = refl
ends (PartEnd (suc i) h) k at = absurd (cc at)
ends (ImportEnd i h) k at = absurd (cc at)
ends (ResultEnd h) k at = refl

loose : (e : End) (k : Contact) → contact_at skip_and_loose e ≡ Some k → IsLoose first_part e → home_of_first (Of e) ≡ None
loose (PartEnd zero h) k at away = absurd (cc away)
loose (PartEnd (suc i) h) k at away = refl
loose (ImportEnd i h) k at away = refl
loose (ResultEnd h) k at away = absurd away

ways : (js : List Tie) (a b : End) → Contains skip_plan.joints (joint a b) → Contains js (tie (Of (ResultEnd 0)) (Of (PartEnd 0 0)))
    → Way js (Of (placed first_part a)) (Of (placed first_part b))
ways js a b has ties =
    subst (λ (j : Joint). Way js (Of (placed first_part j.asking)) (Of (placed first_part j.serving))) (only (joint a b) has)
    (along (Of (ResultEnd 0)) (Of (PartEnd 0 0)) (Of (PartEnd 0 0)) (inl ties) (here (Of (PartEnd 0 0))))

one_tie : (t : Tie) → Contains (own_web skip_plan).ties t → tie (Of (ResultEnd 0)) (Of (PartEnd 0 0)) ≡ t
one_tie t (zero, small, e) = e
one_tie t (suc k, small, e) = absurd (omega (arith, small))

pub skip_is_home : SkipIsHome
skip_is_home =
    record {
      ties = λ a b has. subst (λ (t : Tie). AreHome (own_web skip_plan) (home_of_first t.one) (home_of_first t.other)) (one_tie (tie a b) has)
          (along (Of (ResultEnd 0)) (Of (PartEnd 0 0)) (Of (PartEnd 0 0)) (inl (zero, omega arith, refl)) (here (Of (PartEnd 0 0))));
      ends = ends;
      loose = loose;
      joints = λ a b has. ways (own_web skip_and_loose).ties a b has (zero, omega arith, refl);
    }

pub other_is_not_home : OtherIsNotHome
other_is_not_home is = is.ties (Of (ResultEnd 0)) (Of (PartEnd 1 0)) (zero, omega arith, refl)

pub skip_is_beside : SkipIsBeside
skip_is_beside =
    web_is_beside home_of_first first_part (own_web skip_and_loose) (own_web skip_plan) skip_and_loose skip_plan
    (right_is_of_its_web skip_and_loose both_right) (right_is_of_its_web skip_plan skip_is_right) (first_lies skip_plan.joints) skip_is_home

pub joined_is_not_beside : JoinedIsNotBeside
joined_is_not_beside is = by_sort (is.all (ResultEnd 0) (PartEnd 1 0) (zero, omega arith, refl))
  where
    by_sort : IsOwn first_part skip_plan (ResultEnd 0) (PartEnd 1 0) ⊎ (IsLoose first_part (ResultEnd 0) × IsLoose first_part (PartEnd 1 0)) → ⊥
    by_sort (inr (loose, other)) = loose
    by_sort (inl (d, e, has, at_d, at_e)) =
        let own : PartEnd 0 0 ≡ e = ap (λ (j : Joint). j.serving) (only (joint d e) has) in
        let same : PartEnd 0 0 ≡ PartEnd 1 0 = ap (placed first_part) own ∙ at_e in
        cc same
