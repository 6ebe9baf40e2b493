-- A small wiring with its plans in another order.
use Rattle.std.specs.Prelude.{◌≡◌, ℕ, zero, suc, [], ◌∷◌, Some, Contains, slice_get}
use Rattle.std.proofs.Common.{refl, sym, ◌∙◌, ap, subst, arith, inl, inr}
use Rattle.gos_plan.specs.Plans.{ResultEnd, Plan, IsRight}
use Rattle.gos_plan.specs.Joining.{Place, Link, Linked}
use Rattle.gos_plan.specs.SmallPlans.{skip_plan, same_plan, same_of_skip}
use Rattle.gos_plan.proofs.WiringLemmas.{place_is}
use Rattle.gos_plan.proofs.SmallPlanLemmas.{skip_is_right}
use Rattle.gos_realises.specs.realises.Wirings.{link}
use Rattle.gos_joining.specs.webs.Renumbering.{IsRenumbered}
use Rattle.gos_joining.specs.renumbered.Rewired.{rewired}
use Rattle.gos_joining.specs.renumbered.SmallRewirings.{unchanged, swapped, skip_first, SwapIsRewired, ArgumentGivesNot}
use Rattle.gos_joining.proofs.renumbered.HigherLemmas.{unchanged_end, unchanged_one, is_itself}

twice : (k : ℕ) → swapped (swapped k) ≡ k
twice zero = refl
twice (suc zero) = refl
twice (suc (suc k)) = refl

same_is_right : IsRight same_plan
same_is_right = (((0, 0, refl, refl), refl, refl), tt)

abbrev PlanThere : ℕ → Plan → Type 0
PlanThere k p = (q : Plan) × (slice_get skip_first.plans (swapped k) ≡ Some q) × IsRenumbered unchanged p q

plans : (k : ℕ) (p : Plan) → slice_get same_of_skip.plans k ≡ Some p → PlanThere k p
plans zero p at = let same : same_plan ≡ p = cc at in (same_plan, refl, subst (λ (x : Plan). IsRenumbered unchanged x same_plan) same (is_itself same_plan same_is_right))
plans (suc zero) p at = let same : skip_plan ≡ p = cc at in (skip_plan, refl, subst (λ (x : Plan). IsRenumbered unchanged x skip_plan) same (is_itself skip_plan skip_is_right))
plans (suc (suc k)) p at = absurd (cc at)

no_more : (k : ℕ) (q : Plan) → slice_get skip_first.plans k ≡ Some q → (p : Plan) × (slice_get same_of_skip.plans (swapped k) ≡ Some p)
no_more zero q at = (skip_plan, refl)
no_more (suc zero) q at = (same_plan, refl)
no_more (suc (suc k)) q at = absurd (cc at)

abbrev moves : Place → Place
moves = rewired swapped (λ k. unchanged)

moves_twice : (a : Place) → moves (moves a) ≡ a
moves_twice a = place_is (moves (moves a)) a (twice a.plan) (unchanged_end (moves a).end ∙ unchanged_end a.end)

only : (x y : Link) → Contains (x ∷ []) y → x ≡ y
only x y (zero, small, e) = e
only x y (suc k, small, e) = absurd (omega (arith, small))

abbrev the_link : Link
the_link = link 0 (ResultEnd 0) 1 (ResultEnd 0)

links_to : (a b : Place) → Linked same_of_skip a b → Linked skip_first (moves a) (moves b)
links_to a b (l, has, inl (e, f)) =
    let same = only the_link l has in
    (the_link, (0, omega arith, refl), inr (ap moves (e ∙ ap (λ (x : Link). x.one) (sym same)), ap moves (f ∙ ap (λ (x : Link). x.other) (sym same))))
links_to a b (l, has, inr (e, f)) =
    let same = only the_link l has in
    (the_link, (0, omega arith, refl), inl (ap moves (e ∙ ap (λ (x : Link). x.other) (sym same)), ap moves (f ∙ ap (λ (x : Link). x.one) (sym same))))

links_back : (a b : Place) → Linked skip_first a b → Linked same_of_skip (moves a) (moves b)
links_back a b (l, has, inl (e, f)) =
    let same = only the_link l has in
    (the_link, (0, omega arith, refl), inr (ap moves (e ∙ ap (λ (x : Link). x.one) (sym same)), ap moves (f ∙ ap (λ (x : Link). x.other) (sym same))))
links_back a b (l, has, inr (e, f)) =
    let same = only the_link l has in
    (the_link, (0, omega arith, refl), inl (ap moves (e ∙ ap (λ (x : Link). x.other) (sym same)), ap moves (f ∙ ap (λ (x : Link). x.one) (sym same))))

links_from : (a b : Place) → Linked skip_first (moves a) (moves b) → Linked same_of_skip a b
links_from a b linked =
    subst (λ (x : Place). Linked same_of_skip x b) (moves_twice a)
    (subst (λ (y : Place). Linked same_of_skip (moves (moves a)) y) (moves_twice b) (links_back (moves a) (moves b) linked))

pub swap_is_rewired : SwapIsRewired
swap_is_rewired =
    record {
      returns = twice;
      comes = twice;
      one_to_one = λ k. unchanged_one;
      plans = plans;
      no_more = no_more;
      links = λ a b. (links_to a b, links_from a b);
      giver = refl;
      skipped = refl;
      outcome = refl;
    }

pub argument_gives_not : ArgumentGivesNot
argument_gives_not is = let no : 0 ≡ 1 = is.giver in omega (arith, no)
