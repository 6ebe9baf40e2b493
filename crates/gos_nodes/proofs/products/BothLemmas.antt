-- The plan of a product of two sides is regular, and rests: at each time one side runs, or none.
use Rattle.std.specs.Prelude.{◌+◌, ◌<◌}
use Rattle.std.proofs.Common.{◌≡◌, ℕ, true, false, List, [], ◌∷◌, ◌⊎◌, inl, inr, refl, sym, ◌∙◌, ap, subst, arith}
use Rattle.gos_types.specs.Types.{Type'}
use Rattle.gos_plan.specs.Plans.{End, PartEnd, ImportEnd, ResultEnd, Joint, Plan, IsRight, stands_in}
use Rattle.gos_plan.specs.Tokens.{Tokens, Element, Fire, Out, In, Does, Runs, IsIdle}
use Rattle.gos_plan.specs.Orderly.{Open, none_open, ComesInOrder, AllWelcome, OrderlyFrom}
use Rattle.gos_plan.proofs.JointLemmas.{asking_stands, serving_stands, which_end}
use Rattle.gos_realises.specs.realises.Regular.{Pass, is_open, count, InputsKeepTurns, OutputsKeepTurns, IsRegular}
use Rattle.gos_realises.proofs.realises.InputLemmas.{passed, InputTurns, first_turn, later_turns}
use Rattle.gos_realises.proofs.realises.RingLemmas.{after}
use Rattle.gos_realises.proofs.realises.CountLemmas.{below_count}
use Rattle.gos_joining.specs.webs.Webs.{joint}
use Rattle.gos_joining.specs.webs.Cutting.{lies_at, StandsIn}
use Rattle.gos_supplies.specs.turns.Rests.{Rests}
use Rattle.gos_supplies.proofs.turns.RestLemmas.{passes_are}
use Rattle.gos_nodes.proofs.windows.ClosingLemmas.{Ports, ports_after}
use Rattle.gos_nodes.proofs.windows.PortLemmas.{stands_contact}
use Rattle.gos_nodes.specs.products.Both.{Side, IsSide, IsOfSide, IsBoth, BothIsRegular}
use Rattle.gos_nodes.proofs.products.PlaceLemmas.{IsPartOf, IsLaid}
use Rattle.gos_nodes.proofs.products.PartLemmas.{first_of, second_of, one_of_both}
use Rattle.gos_nodes.proofs.products.GoingLemmas.{OutTurn, Going, begins, Next, AsksBeside, step, all_rests, beside_closed}

outputs_before : (p : Plan) (past : List Pass) (x : Element) (xs : List Element) → OutTurn p past x → OutputsKeepTurns p (after p x past) xs → OutputsKeepTurns p past (x ∷ xs)
outputs_before p past (Fire i t) xs one others = others
outputs_before p past (Out e v) xs one others = (one, others)
outputs_before p past (In e v) xs one others = others

-- the handshake of the whole's result at which an end of a side lies
pub side_result : (r : Plan) (n : ℕ) (g : Side) → IsSide r n g → (p : End) (m : ℕ) → StandsIn g.plan p → lies_at g.cut p ≡ ResultEnd m
    → (h : ℕ) × (h < count g.plan.outcome) × (n + h ≡ m) × StandsIn g.plan (ResultEnd h)
side_result r n g is (PartEnd i h) m stands lies = absurd (cc lies)
side_result r n g is (ImportEnd i h) m stands lies =
    let (k, outer, same) = is.ports i h stands in
    let clash : ImportEnd k h ≡ ResultEnd m = sym outer ∙ lies in absurd (cc clash)
side_result r n g is (ResultEnd h) m stands lies =
    let both : ResultEnd (n + h) ≡ ResultEnd m = sym (is.result h stands) ∙ lies in
    let (c, there) = stands_contact g.plan is.region.right (ResultEnd h) stands in
    (h, below_count g.plan.outcome h c there, cc both, stands)

pub of_side : (r : Plan) (n : ℕ) (g : Side) → IsSide r n g → (m : ℕ) (j : Joint) → stands_in (ResultEnd m) j ≡ true → IsOfSide g j.asking j.serving
    → (h : ℕ) × (h < count g.plan.outcome) × (n + h ≡ m) × StandsIn g.plan (ResultEnd h)
of_side r n g is m j stands (p, q, in_joints, first, last) =
    elim (which_end (ResultEnd m) j stands) [
      | inl asks ↦ side_result r n g is p m (joint p q, in_joints, asking_stands (joint p q)) (first ∙ sym asks)
      | inr serves ↦ side_result r n g is q m (joint p q, in_joints, serving_stands (joint p q)) (last ∙ sym serves)
    ]

-- From one side to another, where that one doesn't go on itself.
cross : (r : Plan) (n m : ℕ) (g e : Side) (is : IsLaid r n g) (also : IsLaid r m e) → Rests g.plan
    → ((k : ℕ) → k < count r.outcome → ((h : ℕ) → h < count g.plan.outcome → n + h ≡ k → ⊥) → ((h : ℕ) → h < count e.plan.outcome → m + h ≡ k → ⊥) → ⊥)
    → (s t : Tokens) (past : List Pass) (o : Open) (x : Element) → Going r n g is s past o → Ports r is.side.region.whole_right o past → Does r x s t → InputTurns r past x
    → Next r n g is s t past o x ⊎ Next r m e also s t past o x
cross r n m g e is also side_rests cover s t past o x going ports does turn = of_step (step r n g is s past o going ports t x does turn)
  where
    of_step : Next r n g is s t past o x ⊎ AsksBeside r n g is s past o going ports x → Next r n g is s t past o x ⊎ Next r m e also s t past o x
    of_step (inl next) = inl next
    of_step (inr (b, v, same, beside)) = of_other (step r m e also s past o begun ports t x does turn)
      where
        rest : IsIdle r s × ((e : End) → is_open past e ≡ false) × ((y : End) → o y ≡ false)
        rest =
            all_rests r n g is s past o going ports side_rests
            (beside_closed r n g is s past o going ports b beside (subst (λ (y : Element). InputTurns r past y) same turn))

        begun : Going r m e also s past o
        begun = begins r m e also s past o rest.0 rest.1 rest.2

        of_other : Next r m e also s t past o x ⊎ AsksBeside r m e also s past o begun ports x → Next r n g is s t past o x ⊎ Next r m e also s t past o x
        of_other (inl next) = inr next
        of_other (inr (d, w, same_too, (k, at_d, small, way, apart))) =
            let inputs : In b v ≡ In d w = sym same ∙ same_too in
            let ends : b ≡ d = cc inputs in
            let results : ResultEnd beside.0 ≡ ResultEnd k = sym beside.1 ∙ (ends ∙ at_d) in
            let numbers : beside.0 ≡ k = cc results in
            absurd (cover k small (λ h low sum. beside.4 h low (sum ∙ sym numbers)) apart)

module _ (a b : Type') (r : Plan) (g e : Side) (both : IsBoth a b r g e) where
  pub first_laid : IsLaid r 0 g
  first_laid =
      record {
        side = both.first;
        names = both.names;
        part = subst (λ (t : Type'). IsPartOf t 0 r.outcome) (sym both.first_type) (subst (λ (t : Type'). IsPartOf a 0 t) (sym both.outcome) (first_of a b));
        joined = joined;
      }
    where
      joined : (h : ℕ) → h < count g.plan.outcome → StandsIn r (ResultEnd (0 + h)) → StandsIn g.plan (ResultEnd h)
      joined h low (j, here, stands) =
          elim (both.joints j.asking j.serving here) [
            | inl own ↦ of_own (of_side r 0 g both.first (0 + h) j stands own)
            | inr other ↦ of_other (of_side r (count a) e both.second (0 + h) j stands other)
          ]
        where
          of_own : (k : ℕ) × (k < count g.plan.outcome) × (0 + k ≡ 0 + h) × StandsIn g.plan (ResultEnd k) → StandsIn g.plan (ResultEnd h)
          of_own (k, small, sum, there) = let same : k ≡ h = omega (arith, sum) in subst (λ (m : ℕ). StandsIn g.plan (ResultEnd m)) same there

          of_other : (k : ℕ) × (k < count e.plan.outcome) × (count a + k ≡ 0 + h) × StandsIn e.plan (ResultEnd k) → StandsIn g.plan (ResultEnd h)
          of_other (k, small, sum, there) =
              let width : count g.plan.outcome ≡ count a = ap count both.first_type in
              let clash : ⊥ = omega (arith, sum, low, width) in absurd clash

  pub second_laid : IsLaid r (count a) e
  second_laid =
      record {
        side = both.second;
        names = both.names;
        part =
            subst (λ (t : Type'). IsPartOf t (count a) r.outcome) (sym both.second_type)
            (subst (λ (t : Type'). IsPartOf b (count a) t) (sym both.outcome) (second_of a b));
        joined = joined;
      }
    where
      joined : (h : ℕ) → h < count e.plan.outcome → StandsIn r (ResultEnd (count a + h)) → StandsIn e.plan (ResultEnd h)
      joined h low (j, here, stands) =
          elim (both.joints j.asking j.serving here) [
            | inl other ↦ of_other (of_side r 0 g both.first (count a + h) j stands other)
            | inr own ↦ of_own (of_side r (count a) e both.second (count a + h) j stands own)
          ]
        where
          of_own : (k : ℕ) × (k < count e.plan.outcome) × (count a + k ≡ count a + h) × StandsIn e.plan (ResultEnd k) → StandsIn e.plan (ResultEnd h)
          of_own (k, small, sum, there) = let same : k ≡ h = omega (arith, sum) in subst (λ (m : ℕ). StandsIn e.plan (ResultEnd m)) same there

          of_other : (k : ℕ) × (k < count g.plan.outcome) × (0 + k ≡ count a + h) × StandsIn g.plan (ResultEnd k) → StandsIn e.plan (ResultEnd h)
          of_other (k, small, sum, there) =
              let width : count g.plan.outcome ≡ count a = ap count both.first_type in
              let clash : ⊥ = omega (arith, sum, small, width) in absurd clash

  cover : (k : ℕ) → k < count r.outcome → ((h : ℕ) → h < count g.plan.outcome → 0 + h ≡ k → ⊥) → ((h : ℕ) → h < count e.plan.outcome → count a + h ≡ k → ⊥) → ⊥
  cover k small first second =
      one_of_both a b k (subst (λ (t : Type'). k < count t) both.outcome small) (λ h low. first h (subst (λ (t : Type'). h < count t) (sym both.first_type) low))
      (λ h low. second h (subst (λ (t : Type'). h < count t) (sym both.second_type) low))

  right : IsRight r
  right = both.first.region.whole_right

-- where the sides rest, one after another runs
module _ (a b : Type') (r : Plan) (g e : Side) (both : IsBoth a b r g e) (first_rests : Rests g.plan) (second_rests : Rests e.plan) where
  abbrev laid_first : IsLaid r 0 g
  laid_first = first_laid a b r g e both

  abbrev laid_second : IsLaid r (count a) e
  laid_second = second_laid a b r g e both

  -- one side runs
  abbrev Runs' : Tokens → List Pass → Open → Type 0
  Runs' s past o = Going r 0 g laid_first s past o ⊎ Going r (count a) e laid_second s past o

  record After (s t : Tokens) (past : List Pass) (o : Open) (x : Element) : Type 0 where
    now : Open
    comes : ComesInOrder r x s o now
    welcome : AllWelcome r t
    out : OutTurn r past x
    runs : Runs' t (after r x past) now

  first_next : (s t : Tokens) (past : List Pass) (o : Open) (x : Element) → Next r 0 g laid_first s t past o x → After s t past o x
  first_next s t past o x next = record { now = next.now; comes = next.comes; welcome = next.welcome; out = next.out; runs = inl next.going }

  second_next : (s t : Tokens) (past : List Pass) (o : Open) (x : Element) → Next r (count a) e laid_second s t past o x → After s t past o x
  second_next s t past o x next = record { now = next.now; comes = next.comes; welcome = next.welcome; out = next.out; runs = inr next.going }

  one_step : (s t : Tokens) (past : List Pass) (o : Open) (x : Element) → Runs' s past o → Ports r (right a b r g e both) o past → Does r x s t → InputTurns r past x → After s t past o x
  one_step s t past o x (inl going) ports does turn =
      elim (cross r 0 (count a) g e laid_first laid_second first_rests (cover a b r g e both) s t past o x going ports does turn) [
        | inl next ↦ first_next s t past o x next
        | inr next ↦ second_next s t past o x next
      ]
  one_step s t past o x (inr going) ports does turn =
      elim (cross r (count a) 0 e g laid_second laid_first second_rests (λ k small second first. cover a b r g e both k small first second) s t past o x going ports does turn) [
        | inl next ↦ second_next s t past o x next
        | inr next ↦ first_next s t past o x next
      ]

  record Along (xs : List Element) (s t : Tokens) (past : List Pass) (o : Open) : Type 0 where
    end : Open
    orderly : OrderlyFrom r xs o s end t
    outputs : OutputsKeepTurns r past xs
    runs : Runs' t (passed r past xs) end
    ports : Ports r (right a b r g e both) end (passed r past xs)

  along : (xs : List Element) (s t : Tokens) (past : List Pass) (o : Open) → Runs' s past o → Ports r (right a b r g e both) o past → Runs r xs s t → InputsKeepTurns r past xs
      → Along xs s t past o
  along [] s t past o runs ports same turns =
      record { end = o; orderly = (refl, same); outputs = tt; runs = subst (λ (x : Tokens). Runs' x past o) (sym same) runs; ports = ports }
  along (x ∷ xs) s t past o runs ports (w, does, more) turns =
      let next = one_step s w past o x runs ports does (first_turn r past x xs turns) in
      let rest =
      along xs w t (after r x past) next.now next.runs (ports_after r (right a b r g e both) x o next.now s w past does next.comes ports) more (later_turns r past x xs turns) in
      record {
        end = rest.end;
        orderly = (next.now, w, does, next.comes, next.welcome, rest.orderly);
        outputs = outputs_before r past x xs next.out rest.outputs;
        runs = rest.runs;
        ports = rest.ports;
      }

  all_along : (s t : Tokens) (xs : List Element) → IsIdle r s → Runs r xs s t → InputsKeepTurns r [] xs → Along xs s t [] none_open
  all_along s t xs idle runs turns =
      along xs s t [] none_open (inl (begins r 0 g laid_first s [] none_open idle (λ e. refl) (λ x. refl))) (λ e port up. absurd (cc up)) runs turns

  pub is_regular : IsRegular r
  is_regular s t xs idle runs turns = let all = all_along s t xs idle runs turns in ((all.end, t, all.orderly), all.outputs)

  pub rests : Rests r
  rests s t xs idle runs turns shut = of_runs all.runs
    where
      all : Along xs s t [] none_open
      all = all_along s t xs idle runs turns

      closed : (e : End) → is_open (passed r [] xs) e ≡ false
      closed e = sym (ap (λ (l : List Pass). is_open l e) (passes_are r [] xs)) ∙ shut e

      of_runs : Runs' t (passed r [] xs) all.end → IsIdle r t
      of_runs (inl going) = (all_rests r 0 g laid_first t (passed r [] xs) all.end going all.ports first_rests (λ h low. closed (ResultEnd (0 + h)))).0
      of_runs (inr going) = (all_rests r (count a) e laid_second t (passed r [] xs) all.end going all.ports second_rests (λ h low. closed (ResultEnd (count a + h)))).0

pub both_is_regular : BothIsRegular
both_is_regular a b r g e both first second = (is_regular a b r g e both first second, rests a b r g e both first second)
