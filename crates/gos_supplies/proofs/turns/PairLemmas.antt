-- The pair of two regular plans is regular: the plan that makes a pair of its arguments is, and is applied to both.
use Rattle.std.specs.Prelude.{ℕ, zero, suc, ◌+◌, ◌-◌, ◌<◌, ◌≤◌, Bool, true, false, List, Some, None, All, slice_get, nat_lt, length}
use Rattle.std.proofs.Common.{◌≡◌, [], ◌∷◌, ◌++◌, ◌⊎◌, inl, inr, refl, sym, ◌∙◌, ap, subst, arith}
use Rattle.std.proofs.lemmas.Bool.Decides.{nat_tests}
use Rattle.gos_types.specs.Types.{Type', Pair, Fun}
use Rattle.gos_types.proofs.ListLemmas.{same_in_front}
use Rattle.gos_model.specs.Typing.{Imported}
use Rattle.gos_plan.specs.Kinds.{Contact, contacts_of, turned_contact, other_side}
use Rattle.gos_plan.specs.Plans.{End, PartEnd, ImportEnd, ResultEnd, Plan, contact_at, contacts_of_import, turned_if}
use Rattle.gos_plan.specs.Tokens.{IsPortEnd}
use Rattle.gos_plan.specs.TokenBits.{LiteralFits}
use Rattle.gos_plan.proofs.JointLemmas.{contained, same_result}
use Rattle.gos_plan.proofs.SideLemmas.{pairs_join, functions_join}
use Rattle.gos_plan.proofs.AskingLemmas.{behind}
use Rattle.gos_plan.proofs.ContactLemmas.{turned_contact_twice}
use Rattle.gos_realises.specs.realises.Regular.{Pass, count, some_open, beyond, KeepsTurnsOf}
use Rattle.gos_realises.proofs.realises.GroundTurnLemmas.{some_there, there_some}
use Rattle.gos_realises.proofs.realises.LiteralLemmas.{no_literals, literals_same, literals_append, literals_joined}
use Rattle.gos_joining.specs.webs.Webs.{joint}
use Rattle.gos_realises.proofs.joined.OriginLemmas.{behind_at}
use Rattle.gos_supplies.specs.turns.Resting.{PairPlanRests, PairRests}
use Rattle.gos_supplies.specs.turns.Pairs.{IsPairPlan, PairPlanIsRegular, PairIsRegular}
use Rattle.gos_supplies.proofs.turns.GoesLemmas.{IsTurned}
use Rattle.gos_realises.proofs.realises.CountLemmas.{count_pair}
use Rattle.gos_supplies.proofs.turns.TypeLemmas.{sides}
use Rattle.gos_supplies.proofs.turns.TurnedLemmas.{res, to_each, from_each, busy_fun}
use Rattle.gos_supplies.proofs.turns.BetweenLemmas.{Leads, busy_to, pair_first, pair_second, fun_first, both_up, not_both}
use Rattle.gos_supplies.proofs.turns.CopyLemmas.{copy_rests, IsCopy, shown_at, copy_is_regular}
use Rattle.gos_supplies.proofs.turns.NameLemmas.{unturned}
use Rattle.gos_supplies.proofs.turns.ApplyLemmas.{applying_is_regular, applying_rests}

first_busy : (a b : Type') (f : ℕ → Bool) → some_open (count a) f ≡ true → some_open (count (Pair a b)) f ≡ true
first_busy a b f busy =
    let (k, low, up) = some_there (count a) f busy in
    let sum = count_pair a b in there_some (count (Pair a b)) f k (omega (arith, low, sum)) up

second_busy : (a b : Type') (f : ℕ → Bool) → some_open (count b) (beyond (count a) f) ≡ true → some_open (count (Pair a b)) f ≡ true
second_busy a b f busy =
    let (k, low, up) = some_there (count b) (beyond (count a) f) busy in
    let sum = count_pair a b in there_some (count (Pair a b)) f (count a + k) (omega (arith, low, sum)) up

module _ (a b : Type') where
  abbrev whole : Type'
  whole = Fun a (Fun b (Pair a b))

  abbrev after : ℕ → ℕ
  after h = count a + (count b + h)

  -- the handshakes of the arguments, and those of the result
  pub argument_at : (h : ℕ) (c : Contact) → slice_get (contacts_of (Pair a b)) h ≡ Some c → slice_get (contacts_of whole) h ≡ Some (turned_contact c)
  argument_at h c there = by_test (nat_lt h (count a)) refl
    where
      at : slice_get (contacts_of a ++ contacts_of b) h ≡ Some c
      at = sym (ap (λ (cs : List Contact). slice_get cs h) (pairs_join a b).joined) ∙ there

      by_test : (t : Bool) → nat_lt h (count a) ≡ t → slice_get (contacts_of whole) h ≡ Some (turned_contact c)
      by_test true test =
          let low : h < count a = grind (arith, nat_tests, test) in
          fun_first a (Fun b (Pair a b)) h c (sym (same_in_front (contacts_of a) (contacts_of b) h low) ∙ at)
      by_test false test =
          let high : count a ≤ h = grind (arith, nat_tests, test) in
          let long = sides a (Fun b (Pair a b)) in
          let sum : h ≡ length (other_side (contacts_of a)) + (h - count a) = omega (arith, high, long) in
          ap (λ (cs : List Contact). slice_get cs h) (functions_join a (Fun b (Pair a b))).joined
          ∙ (behind (other_side (contacts_of a)) (contacts_of (Fun b (Pair a b))) (h - count a) h sum
          ∙ fun_first b (Pair a b) (h - count a) c (sym (behind_at (contacts_of a) (contacts_of b) h high) ∙ at))

  pub result_same : (h : ℕ) → slice_get (contacts_of whole) (after h) ≡ slice_get (contacts_of (Pair a b)) h
  result_same h =
      let long = sides a (Fun b (Pair a b)) in
      let longer = sides b (Pair a b) in
      ap (λ (cs : List Contact). slice_get cs (after h)) (functions_join a (Fun b (Pair a b))).joined
      ∙ (behind (other_side (contacts_of a)) (contacts_of (Fun b (Pair a b))) (count b + h) (after h) (omega (arith, long))
      ∙ (ap (λ (cs : List Contact). slice_get cs (count b + h)) (functions_join b (Pair a b)).joined
      ∙ behind (other_side (contacts_of b)) (contacts_of (Pair a b)) h (count b + h) (omega (arith, longer))))

module _ (a b : Type') (p : Plan) (is : IsPairPlan a b p) where
  at_end : (h : ℕ) → contact_at p (ResultEnd h) ≡ turned_if (slice_get (contacts_of (whole a b)) h)
  at_end h = ap (λ (t : Type'). turned_if (slice_get (contacts_of t) h)) is.outcome

  there_is : (cs : List Contact) (h : ℕ) → h < length cs → (c : Contact) × (slice_get cs h ≡ Some c)
  there_is [] h low = absurd (omega (arith, low))
  there_is (c ∷ cs) zero low = (c, refl)
  there_is (c ∷ cs) (suc h) low = there_is cs h (omega (arith, low))

  first_contact : (h : ℕ) (c : Contact) → slice_get (contacts_of (Pair a b)) h ≡ Some c → contact_at p (ResultEnd h) ≡ Some c
  first_contact h c there = at_end h ∙ (ap turned_if (argument_at a b h c there) ∙ ap Some (turned_contact_twice c))

  cover : (e : End) (c : Contact) → IsPortEnd e → contact_at p e ≡ Some c
      → ((h : ℕ) × (ResultEnd h ≡ e) × (slice_get (contacts_of (Pair a b)) h ≡ Some c))
      ⊎ ((h : ℕ) × (ResultEnd (after a b h) ≡ e) × (slice_get (contacts_of (Pair a b)) h ≡ Some (turned_contact c)))
  cover (PartEnd i h) c port there = absurd port
  cover (ImportEnd i h) c port there =
      let never : None ≡ Some c = sym (ap (λ (xs : List Imported). slice_get (contacts_of_import (slice_get xs i)) h) is.imports) ∙ there in
      absurd (cc never)
  cover (ResultEnd h) c port there = by_test (nat_lt h (count (Pair a b))) refl
    where
      by_test : (t : Bool) → nat_lt h (count (Pair a b)) ≡ t
          → ((k : ℕ) × (ResultEnd k ≡ ResultEnd h) × (slice_get (contacts_of (Pair a b)) k ≡ Some c))
          ⊎ ((k : ℕ) × (ResultEnd (after a b k) ≡ ResultEnd h) × (slice_get (contacts_of (Pair a b)) k ≡ Some (turned_contact c)))
      by_test true test =
          let (d, at) = there_is (contacts_of (Pair a b)) h (grind (arith, nat_tests, test)) in
          let same : Some d ≡ Some c = sym (first_contact h d at) ∙ there in
          inl (h, refl, at ∙ same)
      by_test false test =
          let sum = count_pair a b in
          let high : count (Pair a b) ≤ h = grind (arith, nat_tests, test) in
          let is_after : after a b (h - count (Pair a b)) ≡ h = omega (arith, sum, high) in
          inr (
            h - count (Pair a b),
            ap ResultEnd is_after,
            sym (result_same a b (h - count (Pair a b)))
                ∙ (ap (slice_get (contacts_of (whole a b))) is_after ∙ unturned (slice_get (contacts_of (whole a b)) h) c (sym (at_end h) ∙ there)),
          )

  abbrev first_shown : List Pass → ℕ → Bool
  first_shown past = shown_at ResultEnd past

  abbrev second_shown : List Pass → ℕ → Bool
  second_shown past = shown_at (λ h. ResultEnd (after a b h)) past

  reads : (past : List Pass) → IsTurned p past → Leads (Pair a b) (first_shown past) (second_shown past)
      → KeepsTurnsOf (Pair a b) (first_shown past) × KeepsTurnsOf (Pair a b) (second_shown past)
  reads past turned leads =
      let (of_a, (of_b, of_pair, from_b), from_a) = subst (λ (t : Type'). KeepsTurnsOf t (res past)) is.outcome (to_each p past turned).1 in
      let leads_a : Leads a (first_shown past) (second_shown past) = λ h c there. leads h c (pair_first a b h c there) in
      let leads_b : Leads b (beyond (count a) (first_shown past)) (beyond (count a) (second_shown past)) =
      λ h c there. leads (count a + h) c (pair_second a b h c there) in (
        (
          of_a,
          of_b,
          both_up (some_open (count a) (first_shown past)) (some_open (count b) (beyond (count a) (first_shown past)))
              (λ up also. not_both (some_open (count a) (second_shown past)) (some_open (count b) (beyond (count a) (second_shown past))) of_pair.2
              (busy_to a (first_shown past) (second_shown past) (first_shown past) of_a leads_a (λ h low. inl refl) up)
              (busy_to b (beyond (count a) (first_shown past)) (beyond (count a) (second_shown past)) (beyond (count a) (first_shown past)) of_b leads_b
              (λ h low. inl refl) also)),
        ),
        of_pair,
      )

  makes : (past : List Pass) → KeepsTurnsOf (Pair a b) (first_shown past) → KeepsTurnsOf (Pair a b) (second_shown past)
      → (some_open (count (Pair a b)) (first_shown past) ≡ true → some_open (count (Pair a b)) (second_shown past) ≡ true) → IsTurned p past
  makes past (of_a, of_b, shut) of_pair busy =
      from_each p past (
        (λ n x at. (let never : None ≡ Some x = sym (ap (λ (xs : List Imported). slice_get xs n) is.imports) ∙ at in absurd (cc never))),
        subst (λ (t : Type'). KeepsTurnsOf t (res past)) (sym is.outcome) (
          of_a,
          (of_b, of_pair, λ up. busy (second_busy a b (first_shown past) up)),
          λ up. busy_fun b (Pair a b) (beyond (count a) (first_shown past)) (busy (first_busy a b (first_shown past) up)),
        ),
      )

  is_copy : IsCopy (Pair a b) p ResultEnd (λ h. ResultEnd (after a b h))
  is_copy =
      record {
        right = is.right;
        parts = is.parts;
        cover = cover;
        first_there = λ h c there. (tt, first_contact h c there);
        second_there = λ h c there. (tt, at_end (after a b h) ∙ ap turned_if (result_same a b h ∙ there));
        serving = λ h c there role. contained p.joints (joint (ResultEnd (after a b h)) (ResultEnd h)) (is.serving h c there role);
        asking = λ h c there role. contained p.joints (joint (ResultEnd h) (ResultEnd (after a b h))) (is.asking h c there role);
        first_one = λ h k e. same_result h k e;
        second_one = λ h k e. (let same = same_result (after a b h) (after a b k) e in omega (arith, same));
        apart = λ h k low e. (let same = same_result h (after a b k) e in let sum = count_pair a b in omega (arith, low, same, sum));
        reads = reads;
        makes = makes;
      }

pub pair_plan_is_regular : PairPlanIsRegular
pair_plan_is_regular a b p is = copy_is_regular (Pair a b) p ResultEnd (λ h. ResultEnd (count a + (count b + h))) (is_copy a b p is)

pub pair_is_regular : PairIsRegular
pair_is_regular a b e p q s r is p_type q_type p_literals q_literals p_regular q_regular first second =
    let e_literals : All LiteralFits e.parts = literals_same e.parts [] is.parts no_literals in
    let s_literals : All LiteralFits s.parts =
    literals_joined e (p ∷ []) s first.joining.parts e_literals (literals_append p.parts [] p_literals no_literals) in
    applying_is_regular b (Pair a b) s q r first.joining.outcome q_type s_literals q_literals
    (applying_is_regular a (Fun b (Pair a b)) e p s is.outcome p_type e_literals p_literals (pair_plan_is_regular a b e is) p_regular first) q_regular second

pub pair_plan_rests : PairPlanRests
pair_plan_rests a b p is = copy_rests (Pair a b) p ResultEnd (λ h. ResultEnd (count a + (count b + h))) (is_copy a b p is)

pub pair_rests : PairRests
pair_rests a b e p q s r is p_type q_type p_literals q_literals p_regular q_regular p_rests q_rests first second =
    let e_literals : All LiteralFits e.parts = literals_same e.parts [] is.parts no_literals in
    let s_literals : All LiteralFits s.parts =
    literals_joined e (p ∷ []) s first.joining.parts e_literals (literals_append p.parts [] p_literals no_literals) in
    let e_regular = pair_plan_is_regular a b e is in
    applying_rests b (Pair a b) s q r first.joining.outcome q_type s_literals q_literals
    (applying_is_regular a (Fun b (Pair a b)) e p s is.outcome p_type e_literals p_literals e_regular p_regular first) q_regular
    (applying_rests a (Fun b (Pair a b)) e p s is.outcome p_type e_literals p_literals e_regular p_regular (pair_plan_rests a b e is) p_rests first) q_rests second
