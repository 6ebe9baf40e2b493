-- What is open at the results of the whole and of its regions: along a list whose inputs come in turn a region's result is open where
-- the part that asks it waits for it (`Driven`).
use Rattle.std.specs.Prelude.{◌≡◌, ℕ, Bool, true, false, List, [], ◌∷◌, ◌++◌, Option, Some, None, All, slice_get}
use Rattle.std.proofs.Common.{refl, sym, ap, subst, ◌∙◌}
use Rattle.gos_types.specs.Types.{Type', Com}
use Rattle.gos_types.specs.Events.{Request, Answer}
use Rattle.gos_plan.specs.Kinds.{asks, contacts_of}
use Rattle.gos_plan.specs.Firing.{Phase, Rest, Both, LeftOnly, RightOnly}
use Rattle.gos_plan.specs.Plans.{ResultEnd, Plan, contact_at, turned_if}
use Rattle.gos_plan.specs.Tokens.{Tokens, Element, Fire, Out, In, Does, Runs, IsIdle}
use Rattle.gos_plan.specs.TokenBits.{LiteralFits, AllFit}
use Rattle.gos_plan.proofs.TokenBitsLemmas.{all_stay_fit}
use Rattle.gos_joining.specs.webs.Cutting.{Cut, cut_tokens}
use Rattle.gos_realises.specs.realises.Regular.{Pass, pass, way_in, way_out, is_open, ComesInTurn}
use Rattle.gos_realises.proofs.realises.RingLemmas.{after}
use Rattle.gos_nodes.specs.parallel.Parallel.{IsParallel}
use Rattle.gos_nodes.proofs.parallel.GateLemmas.{gate, Same}
use Rattle.gos_nodes.proofs.parallel.HungLemmas.{Local, fires, puts_out, takes_in}
use Rattle.gos_nodes.proofs.parallel.StepLemmas.{Step, of_left, of_right, asked, told, starts, left_ends, right_ends, left_ends_all, right_ends_all, lost}

-- whether the part waits for the region at its left, and at its right
abbrev pub left_runs : Phase → Bool
left_runs Both = true
left_runs LeftOnly = true
left_runs ph = false

abbrev pub right_runs : Phase → Bool
right_runs Both = true
right_runs RightOnly = true
right_runs ph = false

pub data IsWorking (ph : Phase) : Type 0 where
  with_both : ph ≡ Both → IsWorking ph
  with_left : ph ≡ LeftOnly → IsWorking ph
  with_right : ph ≡ RightOnly → IsWorking ph

-- where the whole stands: whether its result is open, the part's phase, and what lies on the joint of the result
pub data Stage (up : Bool) (ph : Phase) (ask ans : Option ℕ) : Type 0 where
  idle : up ≡ false → ph ≡ Rest → ask ≡ None → ans ≡ None → Stage up ph ask ans
  is_asked : up ≡ true → ph ≡ Rest → ask ≡ Some 0 → ans ≡ None → Stage up ph ask ans
  works : up ≡ true → IsWorking ph → ask ≡ None → ans ≡ None → Stage up ph ask ans
  has_ended : up ≡ true → ph ≡ Rest → ask ≡ None → ans ≡ Some 0 → Stage up ph ask ans

pub record Driven (d : ℕ) (past lefts rights : List Pass) (s : Tokens) : Type 0 where
  pub left_result : is_open lefts (ResultEnd 0) ≡ left_runs (s.state d).phase
  pub right_result : is_open rights (ResultEnd 0) ≡ right_runs (s.state d).phase
  pub stage : Stage (is_open past (ResultEnd 0)) (s.state d).phase (gate s Request) (gate s Answer)

-- an input comes in turn
abbrev pub Comes : Plan → List Pass → Element → Type 0
Comes r past (Fire i t) = Unit {0}
Comes r past (Out e v) = Unit {0}
Comes r past (In e v) = ComesInTurn past e (way_in (contact_at r e))

abbrev pub past_all : Plan → List Element → List Pass → List Pass
past_all p [] past = past
past_all p (y ∷ ys) past = past_all p ys (after p y past)

-- what a stage tells
module _ (up : Bool) (ph : Phase) (ask ans : Option ℕ) where
  pub when_asking : Stage up ph ask ans → up ≡ false → (ph ≡ Rest) × (ask ≡ None) × (ans ≡ None)
  when_asking (idle shut rest none empty) e = (rest, none, empty)
  when_asking (is_asked opened rest none empty) e = let bad : true ≡ false = sym opened ∙ e in absurd (cc bad)
  when_asking (works opened phase none empty) e = let bad : true ≡ false = sym opened ∙ e in absurd (cc bad)
  when_asking (has_ended opened rest none empty) e = let bad : true ≡ false = sym opened ∙ e in absurd (cc bad)

  pub when_told : (v : ℕ) → Stage up ph ask ans → ans ≡ Some v → (up ≡ true) × (ph ≡ Rest) × (ask ≡ None) × (0 ≡ v)
  when_told v (idle shut rest none empty) e = let bad : None ≡ Some v = sym empty ∙ e in absurd (cc bad)
  when_told v (is_asked opened rest none empty) e = let bad : None ≡ Some v = sym empty ∙ e in absurd (cc bad)
  when_told v (works opened phase none empty) e = let bad : None ≡ Some v = sym empty ∙ e in absurd (cc bad)
  when_told v (has_ended opened rest none here) e = let both : Some 0 ≡ Some v = sym here ∙ e in (opened, rest, none, cc both)

  pub when_starting : (v : ℕ) → Stage up ph ask ans → ask ≡ Some v → (up ≡ true) × (ph ≡ Rest) × (ans ≡ None)
  when_starting v (idle shut rest none empty) e = let bad : None ≡ Some v = sym none ∙ e in absurd (cc bad)
  when_starting v (is_asked opened rest some empty) e = (opened, rest, empty)
  when_starting v (works opened phase none empty) e = let bad : None ≡ Some v = sym none ∙ e in absurd (cc bad)
  when_starting v (has_ended opened rest none here) e = let bad : None ≡ Some v = sym none ∙ e in absurd (cc bad)

  pub when_working : Stage up ph ask ans → (ph ≡ Rest → ⊥) → (up ≡ true) × (ask ≡ None) × (ans ≡ None)
  when_working (idle shut rest none empty) other = absurd (other rest)
  when_working (is_asked opened rest some empty) other = absurd (other rest)
  when_working (works opened phase none empty) other = (opened, none, empty)
  when_working (has_ended opened rest none here) other = absurd (other rest)

both_not_rest : (ph : Phase) → ph ≡ Both → ph ≡ Rest → ⊥
both_not_rest ph e f = let bad : Both ≡ Rest = sym e ∙ f in cc bad

left_not_rest : (ph : Phase) → ph ≡ LeftOnly → ph ≡ Rest → ⊥
left_not_rest ph e f = let bad : LeftOnly ≡ Rest = sym e ∙ f in cc bad

right_not_rest : (ph : Phase) → ph ≡ RightOnly → ph ≡ Rest → ⊥
right_not_rest ph e f = let bad : RightOnly ≡ Rest = sym e ∙ f in cc bad

module _
    (d : ℕ) (f g : Cut) (r p q : Plan) (is : IsParallel d f g r p q) (literals : All LiteralFits r.parts) where
  -- what each region makes of an element
  abbrev pub left_seen : (x : Element) (s t : Tokens) → Step d f g r p q x s t → List Element
  left_seen x s t (of_left x' y s' t' local sees unseen same) = y ∷ []
  left_seen x s t (of_right x' y s' t' local sees unseen same) = []
  left_seen x s t (asked v s' t' small left right state ask ans) = []
  left_seen x s t (told v s' t' left right state ans none ask) = []
  left_seen x s t (starts v s' t' left right rest ask both none ans) = In (ResultEnd 0) 0 ∷ []
  left_seen x s t (left_ends v s' t' left right both next gates) = Out (ResultEnd 0) v ∷ []
  left_seen x s t (right_ends v s' t' right left both next gates) = []
  left_seen x s t (left_ends_all v s' t' left right phase rest ask ans) = Out (ResultEnd 0) v ∷ []
  left_seen x s t (right_ends_all v s' t' right left phase rest ask ans) = []
  left_seen x s t (lost j k v s' t' c there not_left not_right left right same) = []

  abbrev pub right_seen : (x : Element) (s t : Tokens) → Step d f g r p q x s t → List Element
  right_seen x s t (of_left x' y s' t' local sees unseen same) = []
  right_seen x s t (of_right x' y s' t' local sees unseen same) = y ∷ []
  right_seen x s t (asked v s' t' small left right state ask ans) = []
  right_seen x s t (told v s' t' left right state ans none ask) = []
  right_seen x s t (starts v s' t' left right rest ask both none ans) = In (ResultEnd 0) 0 ∷ []
  right_seen x s t (left_ends v s' t' left right both next gates) = []
  right_seen x s t (right_ends v s' t' right left both next gates) = Out (ResultEnd 0) v ∷ []
  right_seen x s t (left_ends_all v s' t' left right phase rest ask ans) = []
  right_seen x s t (right_ends_all v s' t' right left phase rest ask ans) = Out (ResultEnd 0) v ∷ []
  right_seen x s t (lost j k v s' t' c there not_left not_right left right same) = []

  -- the ways of the results
  contact_of : (o : Plan) → o.outcome ≡ Com → contact_at o (ResultEnd 0) ≡ Some (asks 0 0)
  contact_of o outcome = ap (λ (t : Type'). turned_if (slice_get (contacts_of t) 0)) outcome

  pub way_asked : (o : Plan) → o.outcome ≡ Com → way_in (contact_at o (ResultEnd 0)) ≡ Request
  way_asked o outcome = ap way_in (contact_of o outcome)

  pub way_told : (o : Plan) → o.outcome ≡ Com → way_out (contact_at o (ResultEnd 0)) ≡ Answer
  way_told o outcome = ap way_out (contact_of o outcome)

  stage_at : (up : Bool) (ph c : Phase) (ask a ans b : Option ℕ) → c ≡ ph → a ≡ ask → b ≡ ans → Stage up ph ask ans → Stage up c a b
  stage_at up ph c ask a ans b e h k stage =
      subst (λ (x : Phase). Stage up x a b) (sym e) (subst (λ (x : Option ℕ). Stage up ph x b) (sym h) (subst (λ (x : Option ℕ). Stage up ph ask x) (sym k) stage))

  driven_same : (past lefts rights : List Pass) (s t : Tokens) → Same d s t → Driven d past lefts rights s → Driven d past lefts rights t
  driven_same past lefts rights s t same driven =
      record {
        left_result = driven.left_result ∙ ap (λ c. left_runs c.phase) (sym same.state);
        right_result = driven.right_result ∙ ap (λ c. right_runs c.phase) (sym same.state);
        stage =
            stage_at (is_open past (ResultEnd 0)) (s.state d).phase (t.state d).phase (gate s Request) (gate t Request) (gate s Answer) (gate t Answer)
            (ap (λ c. c.phase) same.state) (same.gates Request) (same.gates Answer) driven.stage;
      }

  pub asked_turn : (past : List Pass) → ComesInTurn past (ResultEnd 0) (way_in (contact_at r (ResultEnd 0))) → is_open past (ResultEnd 0) ≡ false
  asked_turn past turn = subst (λ w. ComesInTurn past (ResultEnd 0) w) (way_asked r is.outcome) turn

  -- what is open of the results, and where the part stands
  local_driven_left : (x y : Element) (s : Tokens) (past lefts rights : List Pass) → Local f r p x y → Driven d past lefts rights s
      → Driven d (after r x past) (after p y lefts) rights s
  local_driven_left x y s past lefts rights (fires i j k number) driven = driven
  local_driven_left x y s past lefts rights (puts_out i j k v stands leads slices) driven =
      record { left_result = driven.left_result; right_result = driven.right_result; stage = driven.stage }
  local_driven_left x y s past lefts rights (takes_in i j k v stands leads slices) driven =
      record { left_result = driven.left_result; right_result = driven.right_result; stage = driven.stage }

  local_driven_right : (x y : Element) (s : Tokens) (past lefts rights : List Pass) → Local g r q x y → Driven d past lefts rights s
      → Driven d (after r x past) lefts (after q y rights) s
  local_driven_right x y s past lefts rights (fires i j k number) driven = driven
  local_driven_right x y s past lefts rights (puts_out i j k v stands leads slices) driven =
      record { left_result = driven.left_result; right_result = driven.right_result; stage = driven.stage }
  local_driven_right x y s past lefts rights (takes_in i j k v stands leads slices) driven =
      record { left_result = driven.left_result; right_result = driven.right_result; stage = driven.stage }

  pub driven_step : (x : Element) (s t : Tokens) (z : Step d f g r p q x s t) (past lefts rights : List Pass) → Driven d past lefts rights s → Comes r past x
      → Driven d (after r x past) (past_all p (left_seen x s t z) lefts) (past_all q (right_seen x s t z) rights) t
  driven_step x s t (of_left x' y s' t' local sees unseen same) past lefts rights driven comes =
      local_driven_left x' y t' past lefts rights local (driven_same past lefts rights s' t' same driven)
  driven_step x s t (of_right x' y s' t' local sees unseen same) past lefts rights driven comes =
      local_driven_right x' y t' past lefts rights local (driven_same past lefts rights s' t' same driven)
  driven_step x s t (asked v s' t' small left right state ask ans) past lefts rights driven comes =
      let (rest, none, empty) = when_asking (is_open past (ResultEnd 0)) (s'.state d).phase (gate s' Request) (gate s' Answer) driven.stage (asked_turn past comes) in
      subst (λ w. Driven d (pass (ResultEnd 0) w ∷ past) lefts rights t') (sym (way_asked r is.outcome))
      record {
        left_result = driven.left_result ∙ ap (λ c. left_runs c.phase) (sym state);
        right_result = driven.right_result ∙ ap (λ c. right_runs c.phase) (sym state);
        stage = is_asked refl (ap (λ c. c.phase) state ∙ rest) (ask ∙ ap (λ n. Some n) small) (ans ∙ empty);
      }
  driven_step x s t (told v s' t' left right state ans none ask) past lefts rights driven comes =
      let (opened, rest, empty, value) = when_told (is_open past (ResultEnd 0)) (s'.state d).phase (gate s' Request) (gate s' Answer) v driven.stage ans in
      subst (λ w. Driven d (pass (ResultEnd 0) w ∷ past) lefts rights t') (sym (way_told r is.outcome))
      record {
        left_result = driven.left_result ∙ ap (λ c. left_runs c.phase) (sym state);
        right_result = driven.right_result ∙ ap (λ c. right_runs c.phase) (sym state);
        stage = idle refl (ap (λ c. c.phase) state ∙ rest) (ask ∙ empty) none;
      }
  driven_step x s t (starts v s' t' left right rest ask both none ans) past lefts rights driven comes =
      let (opened, also, empty) = when_starting (is_open past (ResultEnd 0)) (s'.state d).phase (gate s' Request) (gate s' Answer) v driven.stage ask in
      subst (λ w. Driven d past (pass (ResultEnd 0) w ∷ lefts) (pass (ResultEnd 0) (way_in (contact_at q (ResultEnd 0))) ∷ rights) t')
      (sym (way_asked p is.left.outcome))
      (subst (λ w. Driven d past (pass (ResultEnd 0) Request ∷ lefts) (pass (ResultEnd 0) w ∷ rights) t') (sym (way_asked q is.right.outcome))
      record {
        left_result = sym (ap left_runs both);
        right_result = sym (ap right_runs both);
        stage = works opened (with_both both) none (ans ∙ empty);
      })
  driven_step x s t (left_ends v s' t' left right both next gates) past lefts rights driven comes =
      let (opened, none, empty) =
      when_working (is_open past (ResultEnd 0)) (s'.state d).phase (gate s' Request) (gate s' Answer) driven.stage (both_not_rest (s'.state d).phase both) in
      subst (λ w. Driven d past (pass (ResultEnd 0) w ∷ lefts) rights t') (sym (way_told p is.left.outcome))
      record {
        left_result = sym (ap left_runs next);
        right_result = driven.right_result ∙ (ap right_runs both ∙ sym (ap right_runs next));
        stage = works opened (with_right next) (gates Request ∙ none) (gates Answer ∙ empty);
      }
  driven_step x s t (right_ends v s' t' right left both next gates) past lefts rights driven comes =
      let (opened, none, empty) =
      when_working (is_open past (ResultEnd 0)) (s'.state d).phase (gate s' Request) (gate s' Answer) driven.stage (both_not_rest (s'.state d).phase both) in
      subst (λ w. Driven d past lefts (pass (ResultEnd 0) w ∷ rights) t') (sym (way_told q is.right.outcome))
      record {
        left_result = driven.left_result ∙ (ap left_runs both ∙ sym (ap left_runs next));
        right_result = sym (ap right_runs next);
        stage = works opened (with_left next) (gates Request ∙ none) (gates Answer ∙ empty);
      }
  driven_step x s t (left_ends_all v s' t' left right phase rest ask ans) past lefts rights driven comes =
      let (opened, none, empty) =
      when_working (is_open past (ResultEnd 0)) (s'.state d).phase (gate s' Request) (gate s' Answer) driven.stage (left_not_rest (s'.state d).phase phase) in
      subst (λ w. Driven d past (pass (ResultEnd 0) w ∷ lefts) rights t') (sym (way_told p is.left.outcome))
      record {
        left_result = sym (ap left_runs rest);
        right_result = driven.right_result ∙ (ap right_runs phase ∙ sym (ap right_runs rest));
        stage = has_ended opened rest (ask ∙ none) ans;
      }
  driven_step x s t (right_ends_all v s' t' right left phase rest ask ans) past lefts rights driven comes =
      let (opened, none, empty) =
      when_working (is_open past (ResultEnd 0)) (s'.state d).phase (gate s' Request) (gate s' Answer) driven.stage (right_not_rest (s'.state d).phase phase) in
      subst (λ w. Driven d past lefts (pass (ResultEnd 0) w ∷ rights) t') (sym (way_told q is.right.outcome))
      record {
        left_result = driven.left_result ∙ (ap left_runs phase ∙ sym (ap left_runs rest));
        right_result = sym (ap right_runs rest);
        stage = has_ended opened rest (ask ∙ none) ans;
      }
  driven_step x s t (lost j k v s' t' c there not_left not_right left right same) past lefts rights driven comes =
      let now = driven_same past lefts rights s' t' same driven in record { left_result = now.left_result; right_result = now.right_result; stage = now.stage }

  pub fits_on : (x : Element) (s t : Tokens) → AllFit r s → Does r x s t → AllFit r t
  fits_on x s t fit does = all_stay_fit r (x ∷ []) s t is.left.cut.whole_right literals fit (t, does, refl)

  pub seen_left_runs : (x : Element) (s w : Tokens) (z : Step d f g r p q x s w) (ys : List Element) (u : Tokens) → Runs p ys (cut_tokens f p w) u
      → Runs p (left_seen x s w z ++ ys) (cut_tokens f p s) u
  seen_left_runs x s w (of_left x' y s' t' local sees unseen same) ys u runs = (cut_tokens f p t', sees, runs)
  seen_left_runs x s w (of_right x' y s' t' local sees unseen same) ys u runs = subst (λ (a : Tokens). Runs p ys a u) unseen runs
  seen_left_runs x s w (asked v s' t' small left right state ask ans) ys u runs = subst (λ (a : Tokens). Runs p ys a u) left runs
  seen_left_runs x s w (told v s' t' left right state ans none ask) ys u runs = subst (λ (a : Tokens). Runs p ys a u) left runs
  seen_left_runs x s w (starts v s' t' left right rest ask both none ans) ys u runs = (cut_tokens f p t', left, runs)
  seen_left_runs x s w (left_ends v s' t' left right both next gates) ys u runs = (cut_tokens f p t', left, runs)
  seen_left_runs x s w (right_ends v s' t' right left both next gates) ys u runs = subst (λ (a : Tokens). Runs p ys a u) left runs
  seen_left_runs x s w (left_ends_all v s' t' left right phase rest ask ans) ys u runs = (cut_tokens f p t', left, runs)
  seen_left_runs x s w (right_ends_all v s' t' right left phase rest ask ans) ys u runs = subst (λ (a : Tokens). Runs p ys a u) left runs
  seen_left_runs x s w (lost j k v s' t' c there not_left not_right left right same) ys u runs = subst (λ (a : Tokens). Runs p ys a u) left runs

  pub seen_right_runs : (x : Element) (s w : Tokens) (z : Step d f g r p q x s w) (ys : List Element) (u : Tokens) → Runs q ys (cut_tokens g q w) u
      → Runs q (right_seen x s w z ++ ys) (cut_tokens g q s) u
  seen_right_runs x s w (of_left x' y s' t' local sees unseen same) ys u runs = subst (λ (a : Tokens). Runs q ys a u) unseen runs
  seen_right_runs x s w (of_right x' y s' t' local sees unseen same) ys u runs = (cut_tokens g q t', sees, runs)
  seen_right_runs x s w (asked v s' t' small left right state ask ans) ys u runs = subst (λ (a : Tokens). Runs q ys a u) right runs
  seen_right_runs x s w (told v s' t' left right state ans none ask) ys u runs = subst (λ (a : Tokens). Runs q ys a u) right runs
  seen_right_runs x s w (starts v s' t' left right rest ask both none ans) ys u runs = (cut_tokens g q t', right, runs)
  seen_right_runs x s w (left_ends v s' t' left right both next gates) ys u runs = subst (λ (a : Tokens). Runs q ys a u) right runs
  seen_right_runs x s w (right_ends v s' t' right left both next gates) ys u runs = (cut_tokens g q t', right, runs)
  seen_right_runs x s w (left_ends_all v s' t' left right phase rest ask ans) ys u runs = subst (λ (a : Tokens). Runs q ys a u) right runs
  seen_right_runs x s w (right_ends_all v s' t' right left phase rest ask ans) ys u runs = (cut_tokens g q t', right, runs)
  seen_right_runs x s w (lost j k v s' t' c there not_left not_right left right same) ys u runs = subst (λ (a : Tokens). Runs q ys a u) right runs

  pub driven_first : (s : Tokens) → IsIdle r s → Driven d [] [] [] s
  driven_first s rests =
      record {
        left_result = sym (ap left_runs (rests.1 d));
        right_result = sym (ap right_runs (rests.1 d));
        stage = idle refl (rests.1 d) (rests.0 Request (ResultEnd 0)) (rests.0 Answer (ResultEnd 0));
      }
