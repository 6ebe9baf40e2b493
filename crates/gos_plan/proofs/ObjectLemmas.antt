-- The laws of reading: a text is that of one plan at most, and has one answer at most.
use Rattle.std.proofs.Common.{◌≡◌, inl, inr, ℕ, zero, suc, ◌<◌, List, [], ◌∷◌, ◌++◌, Some, slice_get, length, take, reverse, refl, sym, ◌∙◌, ap, subst, arith}
use Rattle.std.proofs.lemmas.Bool.{cases_lt}
use Rattle.std.proofs.lemmas.List.{append_assoc, append-nil, reverse-append, take_all}
use Rattle.std.proofs.lemmas.Option.{slice_get_within}
use Rattle.gos_lex.proofs.ItemLemmas.{breaks_off_once}
use Rattle.gos_lex.proofs.PlaceLemmas.{rest_whole}
use Rattle.gos_plan.specs.declared.fault.ObjectFault.TheVariants as faults
use Rattle.gos_plan.specs.Plans.{Joint, Plan, IsRightAfter, AreRight, IsRight}
use Rattle.gos_plan.specs.Faults.{IsFirstWrong}
use Rattle.gos_plan.specs.TextItems.{Spans}
use Rattle.gos_plan.specs.ObjectText.{text_in}
use Rattle.gos_plan.specs.ObjectItems.{whole}
use Rattle.gos_plan.specs.ObjectFaults.{IsObjectText, IsOverLimit, IsTextOfValues, IsOnePlan, ReadHasNoFault, HasOneFault}
use Rattle.gos_plan.proofs.WholeLemmas.{lawful_whole}

pub one_plan : (text : List ℕ) → IsOnePlan text
one_plan text format other_format p other is is_other same same_other =
    let known = (lawful_whole.code (format, p) (other_format, other) [] [] is is_other
    (append-nil (text_in format p) ∙ (sym same ∙ (same_other ∙ sym (append-nil (text_in other_format other)))))).0 in
    (ap (λ (v : whole.Value). v.0) known, ap (λ (v : whole.Value). v.1) known)

same_values : (text : List ℕ) (p other : Plan) → IsTextOfValues text p → IsTextOfValues text other → p ≡ other
same_values text p other one two = (one_plan text one.format two.format p other one.writable two.writable one.is two.is).1

-- in a text whose values keep the limits none is exceeded
no_limit : (text : List ℕ) (p : Plan) (place : ℕ) → IsTextOfValues text p → IsOverLimit text place → ⊥
no_limit text p place is over =
    let spans : Spans text 0 (length text) (text_in is.format p) = record { after = omega arith; within = omega arith; is = rest_whole text 0 ∙ is.is } in
    lawful_whole.under text 0 (length text) place (is.format, p) is.writable is.small spans over

-- a joint among those that are right is right after those before it
right_at : (p : Plan) (before js : List Joint) (n i : ℕ) (j : Joint) → i < n → AreRight p before (take n js) → slice_get js i ≡ Some j → IsRightAfter p (reverse (take i js) ++ before) j
right_at p before [] n i j order right is = absurd cc
right_at p before (x ∷ js) zero i j order right is = absurd (omega (arith, order))
right_at p before (x ∷ js) (suc n) zero j order right is = let same : x ≡ j = cc is in subst (IsRightAfter p before) same right.0
right_at p before (x ∷ js) (suc n) (suc i) j order right is =
    let turned : reverse (x ∷ take i js) ++ before ≡ reverse (take i js) ++ x ∷ before =
    ap (λ (b : List Joint). b ++ before) (reverse-append (x ∷ []) (take i js)) ∙ append_assoc (reverse (take i js)) (x ∷ []) before in
    subst (λ (b : List Joint). IsRightAfter p b j) (sym turned) (right_at p (x ∷ before) js n i j (omega (arith, order)) right.1 is)

not_wrong : (p : Plan) (n index : ℕ) → index < n → AreRight p [] (take n p.joints) → IsFirstWrong p index → ⊥
not_wrong p n index order right wrong =
    wrong.wrong (subst (λ (b : List Joint). IsRightAfter p b wrong.joint) (append-nil (reverse (take index p.joints))) (right_at p [] p.joints n index wrong.joint order right wrong.stands))

pub right_not_wrong : (p : Plan) (index : ℕ) → IsRight p → IsFirstWrong p index → ⊥
right_not_wrong p index right wrong =
    not_wrong p (length p.joints) index (slice_get_within p.joints index wrong.joint wrong.stands)
    (subst (AreRight p []) (sym (take_all (length p.joints) p.joints (omega arith))) right) wrong

one_wrong : (p : Plan) (i j : ℕ) → IsFirstWrong p i → IsFirstWrong p j → i ≡ j
one_wrong p i j one two =
    elim (cases_lt i j) [
      | inl before ↦ absurd (not_wrong p j i before two.before one)
      | inr after ↦
          elim (cases_lt j i) [
            | inl before ↦ absurd (not_wrong p i j before one.before two)
            | inr here ↦ omega (arith, after, here)
          ]
    ]

pub read_has_no_fault : (text : List ℕ) → ReadHasNoFault text
read_has_no_fault text p (faults.Form at) (is, right) fault = absurd (fault.3 ((is.format, p), is.writable, is.is))
read_has_no_fault text p (faults.Limit at) (is, right) (inl (longer, here)) = absurd (omega (arith, longer, is.short))
read_has_no_fault text p (faults.Limit at) (is, right) (inr (short, over)) = absurd (no_limit text p at is over)
read_has_no_fault text p (faults.Joint index) (is, right) (other, is_other, wrong) =
    absurd (right_not_wrong p index right (subst (λ (q : Plan). IsFirstWrong q index) (same_values text other p is_other is) wrong))
read_has_no_fault text p faults.NoMemory read fault = refl

joint_or_form : (text : List ℕ) (p : Plan) → IsTextOfValues text p → (IsObjectText text → ⊥) → ⊥
joint_or_form text p is none = none ((is.format, p), is.writable, is.is)

pub has_one_fault : (text : List ℕ) → HasOneFault text
has_one_fault text (faults.Form at) (faults.Form other) one two = inl (ap (λ (n : ℕ). faults.Form n) (breaks_off_once IsObjectText text 0 at other one.2 two.2))
has_one_fault text (faults.Form at) (faults.Limit other) one (inl (longer, here)) = absurd (omega (arith, longer, one.0))
has_one_fault text (faults.Form at) (faults.Limit other) one (inr (short, over)) = absurd (one.1 other over)
has_one_fault text (faults.Form at) (faults.Joint index) one (p, is, wrong) = absurd (joint_or_form text p is one.3)
has_one_fault text (faults.Limit at) (faults.Form other) (inl (longer, here)) two = absurd (omega (arith, longer, two.0))
has_one_fault text (faults.Limit at) (faults.Form other) (inr (short, over)) two = absurd (two.1 at over)
has_one_fault text (faults.Limit at) (faults.Limit other) (inl one) (inl two) = inl (ap (λ (n : ℕ). faults.Limit n) (one.1 ∙ sym two.1))
has_one_fault text (faults.Limit at) (faults.Limit other) (inl one) (inr two) = absurd (omega (arith, one.0, two.0))
has_one_fault text (faults.Limit at) (faults.Limit other) (inr one) (inl two) = absurd (omega (arith, one.0, two.0))
has_one_fault text (faults.Limit at) (faults.Limit other) (inr one) (inr two) = inl (ap (λ (n : ℕ). faults.Limit n) (lawful_whole.one text 0 at other one.1 two.1))
has_one_fault text (faults.Limit at) (faults.Joint index) (inl one) (p, is, wrong) = absurd (omega (arith, one.0, is.short))
has_one_fault text (faults.Limit at) (faults.Joint index) (inr one) (p, is, wrong) = absurd (no_limit text p at is one.1)
has_one_fault text (faults.Joint index) (faults.Form other) (p, is, wrong) two = absurd (joint_or_form text p is two.3)
has_one_fault text (faults.Joint index) (faults.Limit other) (p, is, wrong) (inl two) = absurd (omega (arith, two.0, is.short))
has_one_fault text (faults.Joint index) (faults.Limit other) (p, is, wrong) (inr two) = absurd (no_limit text p other is two.1)
has_one_fault text (faults.Joint index) (faults.Joint other) (p, is, wrong) (q, is_q, wrong_q) =
    let here = subst (λ (r : Plan). IsFirstWrong r other) (same_values text q p is_q is) wrong_q in
    inl (ap (λ (n : ℕ). faults.Joint n) (one_wrong p index other wrong here))
has_one_fault text faults.NoMemory other one two = inr (inl refl)
has_one_fault text (faults.Form at) faults.NoMemory one two = inr (inr refl)
has_one_fault text (faults.Limit at) faults.NoMemory one two = inr (inr refl)
has_one_fault text (faults.Joint index) faults.NoMemory one two = inr (inr refl)
