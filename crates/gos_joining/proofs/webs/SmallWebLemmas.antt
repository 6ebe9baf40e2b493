-- The plan of `skip ; skip`: unjoined, with its Skips swapped, and the first of them cut out.
use Rattle.std.specs.Prelude.{◌≡◌, ℕ, zero, suc, [], ◌∷◌, ◌⊎◌, Some, Contains, slice_get}
use Rattle.std.proofs.Common.{refl, ap, subst, arith, inl, inr}
use Rattle.std.proofs.lemmas.Option.{none-some, same_Some}
use Rattle.gos_types.specs.Events.{Request}
use Rattle.gos_types.specs.Types.{Com}
use Rattle.gos_types.proofs.ListLemmas.{none_in_empty}
use Rattle.gos_plan.specs.Kinds.{Skip}
use Rattle.gos_plan.specs.Firing.{Rest, First, Second, Req, Ans, Row, row, at, put}
use Rattle.gos_plan.specs.Plans.{End, PartEnd, ImportEnd, ResultEnd, Joint, IsRight}
use Rattle.gos_plan.specs.Tokens.{Tokens, Fire, Out, In, IsPortEnd, with_token, fired}
use Rattle.gos_plan.specs.SmallPlans.{skip_plan, at_first, once}
use Rattle.gos_plan.proofs.DecidedLemmas.{one_state}
use Rattle.gos_plan.proofs.SmallPlanLemmas.{skip_is_right}
use Rattle.gos_joining.specs.webs.Webs.{joint, Of, here, along}
use Rattle.gos_joining.specs.webs.Renumbering.{IsOneToOne, moved_end}
use Rattle.gos_joining.specs.webs.Cutting.{StandsIn, IsCutList}
use Rattle.gos_joining.specs.webs.SmallWebs.{twice_plan, UnjoinedIsNot, swapped, swap, swapped_plan, SwapIsRenumbering, SwapIsSeen, number_of_first, port_of_first, first_out, FirstIsCut, WrongIsNoCut, FirstIsOnce}
use Rattle.gos_joining.proofs.webs.IdleLemmas.{there_and_back}
use Rattle.gos_joining.proofs.webs.LoneCutLemmas.{AreOutside, lone_port, lone_is_cut}

pub unjoined_is_not : UnjoinedIsNot
unjoined_is_not is =
    none_in_empty (joint (ResultEnd 0) (PartEnd 0 2))
    ((is.joints (ResultEnd 0) (PartEnd 0 2)).1
    (0, 0, refl, refl, along (Of (ResultEnd 0)) (Of (PartEnd 0 2)) (Of (PartEnd 0 2)) (inl (0, omega arith, refl)) (here (Of (PartEnd 0 2)))))

-- there and back
back_again : (i : ℕ) → swapped (swapped i) ≡ i
back_again zero = refl
back_again (suc zero) = refl
back_again (suc (suc zero)) = refl
back_again (suc (suc (suc n))) = refl

same_part : (i : ℕ) → slice_get twice_plan.parts (swapped i) ≡ slice_get twice_plan.parts i
same_part zero = refl
same_part (suc zero) = refl
same_part (suc (suc zero)) = refl
same_part (suc (suc (suc n))) = refl

pub twice_is_right : IsRight twice_plan
twice_is_right = (((0, 0, refl, refl), refl, refl), (((0, 0, refl, refl), refl, refl), (((0, 0, refl, refl), refl, refl), tt)))

swapped_is_right : IsRight swapped_plan
swapped_is_right = (((0, 0, refl, refl), refl, refl), (((0, 0, refl, refl), refl, refl), (((0, 0, refl, refl), refl, refl), tt)))

abbrev swapped_of : Joint → Joint
swapped_of j = joint (moved_end swap j.asking) (moved_end swap j.serving)

to_swapped : (a b : End) → Contains twice_plan.joints (joint a b) → Contains swapped_plan.joints (swapped_of (joint a b))
to_swapped a b (zero, l, e) = (1, omega arith, ap swapped_of e)
to_swapped a b (suc zero, l, e) = (0, omega arith, ap swapped_of e)
to_swapped a b (suc (suc zero), l, e) = (2, omega arith, ap swapped_of e)
to_swapped a b (suc (suc (suc n)), l, e) = absurd (omega (arith, l))

from_swapped : (a b : End) → Contains swapped_plan.joints (joint a b) → Contains twice_plan.joints (swapped_of (joint a b))
from_swapped a b (zero, l, e) = (1, omega arith, ap swapped_of e)
from_swapped a b (suc zero, l, e) = (0, omega arith, ap swapped_of e)
from_swapped a b (suc (suc zero), l, e) = (2, omega arith, ap swapped_of e)
from_swapped a b (suc (suc (suc n)), l, e) = absurd (omega (arith, l))

one_to_one : IsOneToOne swap
one_to_one = record { parts = back_again; parts_back = back_again; imports = λ i. refl; imports_back = λ i. refl }

swapped_back : (a b : End) → Contains swapped_plan.joints (swapped_of (joint a b)) → Contains twice_plan.joints (joint a b)
swapped_back a b has =
    subst (λ (j : Joint). Contains twice_plan.joints j) (λ i. joint (there_and_back swap one_to_one a i) (there_and_back swap one_to_one b i))
    (from_swapped (moved_end swap a) (moved_end swap b) has)

pub swap_is_renumbering : SwapIsRenumbering
swap_is_renumbering =
    record {
      one_to_one = one_to_one;
      parts = same_part;
      imports = λ i. refl;
      outcome = refl;
      joints = λ a b. (to_swapped a b, swapped_back a b);
      right = twice_is_right;
      also_right = swapped_is_right;
    }

-- the first child of the Seq is not the second Skip
abbrev part_of : End → ℕ
part_of (PartEnd i h) = i
part_of (ImportEnd i h) = 0
part_of (ResultEnd h) = 0

not_second : Contains twice_plan.joints (joint (PartEnd 0 0) (PartEnd 2 0)) → ⊥
not_second (zero, l, e) = let asks : ResultEnd 0 ≡ PartEnd 0 0 = ap (λ (j : Joint). j.asking) e in cc asks
not_second (suc zero, l, e) = let other : 1 ≡ 2 = ap (λ (j : Joint). part_of j.serving) e in omega (arith, other)
not_second (suc (suc zero), l, e) = let asks : PartEnd 0 1 ≡ PartEnd 0 0 = ap (λ (j : Joint). j.asking) e in cc asks
not_second (suc (suc (suc n)), l, e) = omega (arith, l)

pub swap_is_seen : SwapIsSeen
swap_is_seen is = not_second ((is.joints (PartEnd 0 0) (PartEnd 1 0)).0 (1, omega arith, refl))

-- the first Skip
abbrev pub skip_joint : Joint
skip_joint = joint (ResultEnd 0) (PartEnd 0 0)

-- its one port
pub one_port : (e : End) → IsPortEnd e → StandsIn skip_plan e → ResultEnd 0 ≡ e
one_port = lone_port 5 Com Skip

its_number : (i j : ℕ) → number_of_first i ≡ Some j → (1 ≡ i) × (0 ≡ j)
its_number zero j is = absurd (none-some j is)
its_number (suc zero) j is = (refl, same_Some 0 j is)
its_number (suc (suc i)) j is = absurd (none-some j is)

its_port : (b e : End) → port_of_first b ≡ Some e → (PartEnd 0 0 ≡ b) × (ResultEnd 0 ≡ e)
its_port (PartEnd zero zero) e is = (refl, same_Some (ResultEnd 0) e is)
its_port (PartEnd zero (suc h)) e is = absurd (none-some e is)
its_port (PartEnd (suc i) h) e is = absurd (none-some e is)
its_port (ImportEnd i h) e is = absurd (none-some e is)
its_port (ResultEnd h) e is = absurd (none-some e is)

its_joint : (j : Joint) → Contains twice_plan.joints j → (joint (PartEnd 0 0) (PartEnd 1 0) ≡ j) ⊎ AreOutside first_out j
its_joint j (zero, l, e) = inr (subst (AreOutside first_out) e (tt, refl))
its_joint j (suc zero, l, e) = inl e
its_joint j (suc (suc zero), l, e) = inr (subst (AreOutside first_out) e (refl, refl))
its_joint j (suc (suc (suc n)), l, e) = absurd (omega (arith, l))

pub first_is_cut : FirstIsCut
first_is_cut =
    lone_is_cut 5 Com Skip 1 (PartEnd 0 0) number_of_first port_of_first twice_plan
    (record {
      whole_right = twice_is_right;
      right = skip_is_right;
      part = refl;
      own_number = refl;
      one_number = its_number;
      outside = refl;
      own_port = refl;
      one_port = its_port;
      contact = refl;
      asked = (1, omega arith, refl);
      joints = its_joint;
    })

not_first : Contains twice_plan.joints (joint (PartEnd 0 1) (PartEnd 1 0)) → ⊥
not_first (zero, l, e) = let asks : ResultEnd 0 ≡ PartEnd 0 1 = ap (λ (j : Joint). j.asking) e in cc asks
not_first (suc zero, l, e) = let asks : PartEnd 0 0 ≡ PartEnd 0 1 = ap (λ (j : Joint). j.asking) e in cc asks
not_first (suc (suc zero), l, e) = let other : 2 ≡ 1 = ap (λ (j : Joint). part_of j.serving) e in omega (arith, other)
not_first (suc (suc (suc n)), l, e) = omega (arith, l)

pub wrong_is_no_cut : WrongIsNoCut
wrong_is_no_cut cut = not_first (cut.joints (ResultEnd 0) (PartEnd 0 0) (0, omega arith, refl))

-- the list, state by state
abbrev asked : Tokens
asked = with_token twice_plan (ResultEnd 0) Request (Some 0) at_first

abbrev starts : Row
starts = row (Req 2) (at First 0) (λ v. put (Req 0) 0)

abbrev started : Tokens
started = fired twice_plan 0 starts 0 asked

abbrev answers : Row
answers = row (Req 0) (at Rest 0) (λ v. put (Ans 0) 0)

abbrev answered : Tokens
answered = fired twice_plan 1 answers 0 started

abbrev goes_on : Row
goes_on = row (Ans 0) (at Second 0) (λ v. put (Req 1) 0)

abbrev gone_on : Tokens
gone_on = fired twice_plan 0 goes_on 0 answered

fourth : IsCutList first_out twice_plan (Fire 0 (Ans 0) ∷ []) answered (Out (ResultEnd 0) 0 ∷ [])
fourth t does = ([], refl, refl)

third : IsCutList first_out twice_plan (Fire 1 (Req 0) ∷ Fire 0 (Ans 0) ∷ []) started (Fire 0 (Req 0) ∷ Out (ResultEnd 0) 0 ∷ [])
third t does =
    let one = one_state twice_plan (Fire 1 (Req 0)) started answered t (0, answers, refl, refl, refl) does in
    (Out (ResultEnd 0) 0 ∷ [], refl, subst (λ u. IsCutList first_out twice_plan (Fire 0 (Ans 0) ∷ []) u (Out (ResultEnd 0) 0 ∷ [])) one fourth)

second : IsCutList first_out twice_plan (Fire 0 (Req 2) ∷ Fire 1 (Req 0) ∷ Fire 0 (Ans 0) ∷ []) asked once
second t does =
    let one = one_state twice_plan (Fire 0 (Req 2)) asked started t (0, starts, refl, refl, refl) does in (
      Fire 0 (Req 0) ∷ Out (ResultEnd 0) 0 ∷ [],
      refl,
      subst (λ u. IsCutList first_out twice_plan (Fire 1 (Req 0) ∷ Fire 0 (Ans 0) ∷ []) u (Fire 0 (Req 0) ∷ Out (ResultEnd 0) 0 ∷ [])) one third,
    )

pub first_is_once : FirstIsOnce
first_is_once t does =
    let one = one_state twice_plan (In (ResultEnd 0) 0) at_first asked t (tt, (omega arith, refl)) does in
    (once, refl, subst (λ u. IsCutList first_out twice_plan (Fire 0 (Req 2) ∷ Fire 1 (Req 0) ∷ Fire 0 (Ans 0) ∷ []) u once) one second)
