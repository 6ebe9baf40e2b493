-- Small cores.
use Rattle.std.specs.Prelude.{ℕ, zero, suc, ◌⊎◌, Some, None, Contains, slice_get}
use Rattle.std.proofs.Common.{◌≡◌, [], ◌∷◌, refl, sym, ap, subst, arith, inl, inr}
use Rattle.gos_types.specs.Events.{Request}
use Rattle.gos_plan.specs.Kinds.{Part, Skip}
use Rattle.gos_plan.specs.Firing.{Rest, at}
use Rattle.gos_plan.specs.Plans.{End, PartEnd, ResultEnd, Joint, IsRight}
use Rattle.gos_plan.specs.Tokens.{Tokens, In, with_token, Does}
use Rattle.gos_plan.specs.SmallPlans.{skip_plan}
use Rattle.gos_plan.proofs.SmallPlanLemmas.{skip_is_right}
use Rattle.gos_joining.specs.webs.Webs.{joint}
use Rattle.gos_supplies.specs.unjoined.Beside.{Placing, placed, IsLoose, IsOwn, IsBeside}
use Rattle.gos_sharing.specs.cores.Core.{core_end}
use Rattle.gos_sharing.specs.cores.SmallCores.{first_alone, first_part, skip_and_others, other_skip, bare, SkipIsCore, BareIsCore, ReachedIsNotStill, OtherIsNoCore}
use Rattle.gos_sharing.proofs.cores.RestLemmas.{beside_is_core}

own_parts : (i : ℕ) (k : Part) → slice_get skip_plan.parts i ≡ Some k → (slice_get skip_and_others.parts i ≡ Some k) × (first_alone i ≡ Some i)
own_parts zero k there = (there, refl)
own_parts (suc i) k there = absurd (cc there)

own_numbers : (i j : ℕ) → first_alone i ≡ Some j → (j ≡ i) × ((k : Part) × (slice_get skip_plan.parts j ≡ Some k))
own_numbers zero j there = let same : zero ≡ j = cc there in (sym same, (Skip, ap (slice_get skip_plan.parts) (sym same)))
own_numbers (suc i) j there = absurd (cc there)

abbrev placing : Placing
placing = record { part = λ i. i; number = first_alone; import = λ i. i; import_number = λ i. None }

others_right : IsRight skip_and_others
others_right = (((0, 0, refl, refl), refl, refl), (((0, 0, refl, refl), refl, refl), tt))

only : (j : Joint) → Contains skip_plan.joints j → joint (ResultEnd 0) (PartEnd 0 0) ≡ j
only j (zero, small, e) = e
only j (suc k, small, e) = absurd (omega (arith, small))

others_beside : IsBeside placing skip_and_others skip_plan
others_beside =
    record {
      lies =
          record {
            outcome = refl;
            parts = own_parts;
            numbers = own_numbers;
            imports = λ i x there. absurd (cc there);
            import_numbers = λ i j there. absurd (cc there);
          };
      whole_right = others_right;
      right = skip_is_right;
      joints = λ a b has. own_joint (joint a b) (only (joint a b) has);
      all = λ a b has. sort (joint a b) has;
    }
  where
    own_joint : (j : Joint) → joint (ResultEnd 0) (PartEnd 0 0) ≡ j
        → Contains skip_and_others.joints (joint (placed placing j.asking) (placed placing j.serving))
    own_joint j same =
        subst (λ (k : Joint). Contains skip_and_others.joints (joint (placed placing k.asking) (placed placing k.serving))) same (0, omega arith, refl)

    Sorted : Joint → Type 0
    Sorted j =
        IsOwn placing skip_plan j.asking j.serving
        ⊎ (IsLoose placing j.asking × IsLoose placing j.serving)

    sort : (j : Joint) → Contains skip_and_others.joints j → Sorted j
    sort j (zero, small, e) = subst Sorted e (inl (ResultEnd 0, PartEnd 0 0, (0, omega arith, refl), refl, refl))
    sort j (suc zero, small, e) = subst Sorted e (inr (refl, refl))
    sort j (suc (suc k), small, e) = absurd (omega (arith, small))

pub skip_is_core : SkipIsCore
skip_is_core = beside_is_core placing skip_and_others skip_plan others_beside

bare_parts : (i : ℕ) (k : Part) → slice_get bare.parts i ≡ Some k → (slice_get skip_plan.parts i ≡ Some k) × (first_alone i ≡ Some i)
bare_parts zero k there = (there, refl)
bare_parts (suc i) k there = absurd (cc there)

no_joint : (a b : End) → Contains bare.joints (joint a b) → ⊥
no_joint a b (k, small, e) = omega (arith, small)

pub bare_is_core : BareIsCore
bare_is_core =
    record {
      right = skip_is_right;
      also_right = tt;
      outcome = refl;
      parts = bare_parts;
      numbers = own_numbers;
      imports = λ i x there. absurd (cc there);
      origins = λ i j there. absurd (cc there);
      joints = λ a b has. absurd (no_joint a b has);
    }

-- nothing is there yet, and then a request
abbrev first : Tokens
first = record { in_place = λ way e. None; state = λ i. at Rest 0 }

abbrev then : Tokens
then = with_token skip_plan (ResultEnd 0) Request (Some 0) first

pub reached_is_not_still : ReachedIsNotStill
reached_is_not_still still = cc (still first then (In (ResultEnd 0) 0 ∷ []) (ResultEnd 0) (PartEnd 0 0) Request ((λ way e. refl), (λ i. refl)) (then, does, refl) ((refl, tt), tt) dead)
  where
    does : Does skip_plan (In (ResultEnd 0) 0) first then
    does = (tt, (omega arith, refl))

    dead : Contains skip_plan.joints (joint (ResultEnd 0) (PartEnd 0 0))
        × ((d e : End) → Contains bare.joints (joint d e) → core_end first_part d ≡ ResultEnd 0 → core_end first_part e ≡ PartEnd 0 0 → ⊥)
    dead = ((0, omega arith, refl), λ d e has at_d at_e. no_joint d e has)

other_only : (j : Joint) → Contains other_skip.joints j → joint (ResultEnd 0) (PartEnd 1 0) ≡ j
other_only j (zero, small, e) = e
other_only j (suc k, small, e) = absurd (omega (arith, small))

pub other_is_no_core : OtherIsNoCore
other_is_no_core is =
    let same : joint (ResultEnd 0) (PartEnd 1 0) ≡ joint (ResultEnd 0) (PartEnd 0 0) =
    other_only (joint (ResultEnd 0) (PartEnd 0 0)) (is.joints (ResultEnd 0) (PartEnd 0 0) (0, omega arith, refl))
    in
    let ends : PartEnd 1 0 ≡ PartEnd 0 0 = ap (λ (j : Joint). j.serving) same in
    cc ends
