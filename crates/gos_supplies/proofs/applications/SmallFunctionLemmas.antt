-- A small function and its body.
use Rattle.std.specs.Prelude.{◌≡◌, zero, suc, [], ◌∷◌, Contains}
use Rattle.std.proofs.Common.{refl, subst, arith}
use Rattle.gos_plan.specs.Plans.{End, ImportEnd, ResultEnd, Joint}
use Rattle.gos_plan.specs.SmallPlans.{same_plan}
use Rattle.gos_joining.specs.webs.Webs.{joint}
use Rattle.gos_supplies.specs.applications.Opened.{opened}
use Rattle.gos_supplies.specs.applications.SmallFunctions.{name_plan, SameIsFunction, UnjoinedIsNoBody}

only : (i j : Joint) → Contains (i ∷ []) j → i ≡ j
only i j (zero, small, e) = e
only i j (suc k, small, e) = absurd (omega (arith, small))

abbrev Comes : End → End → Type 0
Comes a b = (c d : End) × Contains same_plan.joints (joint c d) × (opened 0 1 c ≡ a) × (opened 0 1 d ≡ b)

pub same_is_function : SameIsFunction
same_is_function =
    record {
      right = (((0, 0, refl, refl), refl, refl), tt);
      body_right = (((0, 0, refl, refl), refl, refl), tt);
      parts = refl;
      imports = refl;
      outcome = refl;
      joints = λ a b has.
          (let same = only (joint (ResultEnd 1) (ResultEnd 0)) (joint a b) has in
          subst (λ (j : Joint). Contains name_plan.joints (joint (opened 0 1 j.asking) (opened 0 1 j.serving))) same (0, omega arith, refl));
      no_more = λ a b has.
          (let same = only (joint (ResultEnd 0) (ImportEnd 0 0)) (joint a b) has in
          subst (λ (j : Joint). Comes j.asking j.serving) same (ResultEnd 1, ResultEnd 0, (0, omega arith, refl), refl, refl));
    }

pub unjoined_is_no_body : UnjoinedIsNoBody
unjoined_is_no_body is =
    let (k, small, e) = is.joints (ResultEnd 1) (ResultEnd 0) (0, omega arith, refl) in omega (arith, small)
