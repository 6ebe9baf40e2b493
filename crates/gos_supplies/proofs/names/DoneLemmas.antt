-- The plan of a name of a command or an expression realises it: the track of its run, of the import's run and answer, and of its
-- own answer, which has the import's number.
use Rattle.std.specs.Prelude.{◌≡◌, ℕ, zero, suc, ◌^◌, ◌<◌, ◌||◌, Bool, true, false, List, [], ◌∷◌, ◌⊎◌, Option, Some, None}
use Rattle.std.specs.Str.{bytes_eq}
use Rattle.std.proofs.lemmas.Slice.Eq.{bytes_eq-Decides}
use Rattle.std.proofs.Common.{refl, sym, ◌∙◌, ap, subst, arith, inl, inr}
use Rattle.gos_types.specs.Events.{Direction, Request, Answer}
use Rattle.gos_types.specs.Types.{Type', Com, Exp, Var, Pair, Fun, IsDone, IsGround}
use Rattle.gos_types.proofs.BoolLemmas.{true_is_not_false}
use Rattle.gos_types.proofs.ListLemmas.{none_in_empty}
use Rattle.gos_model.specs.Terms as terms
use Rattle.gos_model.specs.Terms.{Name, Term, Import, Wait}
use Rattle.gos_model.specs.Typing.{import_type}
use Rattle.gos_model.specs.Labels.{given, taken, IsAnswer, Emits}
use Rattle.gos_model.specs.Moves.{Config, Idle, Running, Act, Showing, Moves, labels, Answers, Stalled}
use Rattle.gos_plan.specs.Kinds.{Contact, asks, serves}
use Rattle.gos_plan.specs.Firing.{Slot, Req, Ans}
use Rattle.gos_plan.specs.Plans.{End, PartEnd, ImportEnd, ResultEnd, contact_at, IsRight}
use Rattle.gos_plan.specs.Tokens.{Tokens, Element, Fire, Out, In, places_of, held_at, with_token, with_place, way_taken, way_put, Passes, Does}
use Rattle.gos_plan.specs.Turns.{IsEmptyAt}
use Rattle.gos_plan.specs.Orderly.{Open, named_by, handshake_at, with_open, after_taken, after_put, ComesWell, ComesInOrder, AllWelcome}
use Rattle.gos_realises.specs.realises.Regular.{Pass, pass, way_in, way_out, is_open, ComesInTurn, KeepsTurnsOf, KeepsTurns, whole_type, whole_end, IsRegular}
use Rattle.gos_realises.specs.realises.Matched.{shows, GoesOn, Agrees, program_of, RealisesInTurn}
use Rattle.gos_realises.specs.realises.Realises.{Suits, Means, Realises}
use Rattle.gos_realises.proofs.realises.LiteralLemmas.{no_literals}
use Rattle.gos_realises.proofs.realises.OneJointLemmas.{Lies, rests_alone, is_idle, with_request, with_answer, not_both}
use Rattle.gos_realises.proofs.realises.SkipLemmas.{run_is_no_output, running_is_not_idle}
use Rattle.gos_realises.proofs.realises.RingLemmas.{after, OutputTurns, IsFirst}
use Rattle.gos_supplies.specs.names.Names.{name_plan}
use Rattle.gos_supplies.proofs.names.WaitLemmas.{wait_is_stalled}
use Rattle.gos_supplies.proofs.names.TrackLemmas.{IsTrack, IsProgramTrack, track_is_regular, track_realises}

data Stage : Type 0 where
  Resting Asked Away : Stage
  Back : (v : ℕ) → Stage

abbrev bits : Type' → ℕ
bits (Exp w) = w
bits t = 0

-- what the answer with this number leaves
abbrev left : Type' → ℕ → Term
left (Exp w) v = terms.Lit v w
left t v = terms.Skip

abbrev Next : Type' → Stage → Element → Type 0
Next t Resting x = x ≡ In (ResultEnd 0) 0
Next t Asked x = x ≡ Out (ImportEnd 0 0) 0
Next t Away x = (v : ℕ) × (v < 2 ^ bits t) × (x ≡ In (ImportEnd 0 0) v)
Next t (Back v) x = (x ≡ Out (ResultEnd 0) v) × (v < 2 ^ bits t)

abbrev number_of : Element → ℕ
number_of (Fire i t) = 0
number_of (Out e v) = v
number_of (In e v) = v

abbrev succ : Stage → Element → Stage
succ Resting x = Asked
succ Asked x = Away
succ Away x = Back (number_of x)
succ (Back v) x = Resting

abbrev acts : Name → Stage → Element → List Act
acts n Resting x = Showing (given 0 0) ∷ []
acts n Asked x = Showing (taken n 0 0) ∷ []
acts n Away x = Showing (taken n 1 (number_of x)) ∷ []
acts n (Back v) x = Showing (given 1 v) ∷ []

abbrev config : Name → Type' → Stage → Config
config n t Resting = Idle
config n t Asked = Running (Import n) []
config n t Away = Running (Wait n 1) []
config n t (Back v) = Running (left t v) []

abbrev At : Type' → Stage → Tokens → Type 0
At t Resting s = Lies (ResultEnd 0) None None s
At t Asked s = Lies (ResultEnd 0) (Some 0) None s
At t Away s = Lies (ResultEnd 0) None None s
At t (Back v) s = Lies (ResultEnd 0) None (Some v) s × (v < 2 ^ bits t)

abbrev OpenAt : Stage → Open → Type 0
OpenAt Resting o = o (ResultEnd 0) ≡ false
OpenAt Asked o = o (ResultEnd 0) ≡ true
OpenAt Away o = o (ResultEnd 0) ≡ true
OpenAt (Back v) o = o (ResultEnd 0) ≡ true

-- of the result and of the import
abbrev Opened : Stage → (End → Bool) → Type 0
Opened Resting f = (f (ResultEnd 0) ≡ false) × (f (ImportEnd 0 0) ≡ false)
Opened Asked f = (f (ResultEnd 0) ≡ true) × (f (ImportEnd 0 0) ≡ false)
Opened Away f = (f (ResultEnd 0) ≡ true) × (f (ImportEnd 0 0) ≡ true)
Opened (Back v) f = (f (ResultEnd 0) ≡ true) × (f (ImportEnd 0 0) ≡ false)

-- An output takes what lies on the joint.
abbrev TakesAt : End → Direction → End → ℕ → Tokens → Tokens → Type 0
TakesAt d way e v s w = (e ≡ d) × (s.in_place way (ResultEnd 0) ≡ Some v) × (w ≡ with_place way (ResultEnd 0) None s)

-- An input puts something there.
abbrev PutsAt : End → Direction → ℕ → End → ℕ → Tokens → Tokens → Type 0
PutsAt d way n e v s w = (e ≡ d) × (v < 2 ^ n) × (w ≡ with_place way (ResultEnd 0) (Some v) s)

module _ (n : Name) where
  pub out_of : (t : Type') (e : End) (v : ℕ) (s w : Tokens) → IsDone t → Does (name_plan n t) (Out e v) s w
      → TakesAt (ResultEnd 0) Answer e v s w ⊎ TakesAt (ImportEnd 0 0) Request e v s w
  out_of t (PartEnd i h) v s w done does = absurd does.0
  out_of Com (ImportEnd zero zero) v s w done does = inr (refl, does.1.0, does.1.1)
  out_of Com (ImportEnd zero (suc h)) v s w done does = absurd does.1
  out_of Com (ImportEnd (suc i) h) v s w done does = absurd does.1
  out_of Com (ResultEnd zero) v s w done does = inl (refl, does.1.0, does.1.1)
  out_of Com (ResultEnd (suc h)) v s w done does = absurd does.1
  out_of (Exp b) (ImportEnd zero zero) v s w done does = inr (refl, does.1.0, does.1.1)
  out_of (Exp b) (ImportEnd zero (suc h)) v s w done does = absurd does.1
  out_of (Exp b) (ImportEnd (suc i) h) v s w done does = absurd does.1
  out_of (Exp b) (ResultEnd zero) v s w done does = inl (refl, does.1.0, does.1.1)
  out_of (Exp b) (ResultEnd (suc h)) v s w done does = absurd does.1
  out_of (Var b) e v s w done does = absurd done
  out_of (Pair a b) e v s w done does = absurd done
  out_of (Fun a b) e v s w done does = absurd done

  pub in_of : (t : Type') (e : End) (v : ℕ) (s w : Tokens) → IsDone t → Does (name_plan n t) (In e v) s w
      → PutsAt (ResultEnd 0) Request 0 e v s w ⊎ PutsAt (ImportEnd 0 0) Answer (bits t) e v s w
  in_of t (PartEnd i h) v s w done does = absurd does.0
  in_of Com (ImportEnd zero zero) v s w done does = inr (refl, does.1.0, does.1.1)
  in_of Com (ImportEnd zero (suc h)) v s w done does = absurd does.1
  in_of Com (ImportEnd (suc i) h) v s w done does = absurd does.1
  in_of Com (ResultEnd zero) v s w done does = inl (refl, does.1.0, does.1.1)
  in_of Com (ResultEnd (suc h)) v s w done does = absurd does.1
  in_of (Exp b) (ImportEnd zero zero) v s w done does = inr (refl, does.1.0, does.1.1)
  in_of (Exp b) (ImportEnd zero (suc h)) v s w done does = absurd does.1
  in_of (Exp b) (ImportEnd (suc i) h) v s w done does = absurd does.1
  in_of (Exp b) (ResultEnd zero) v s w done does = inl (refl, does.1.0, does.1.1)
  in_of (Exp b) (ResultEnd (suc h)) v s w done does = absurd does.1
  in_of (Var b) e v s w done does = absurd done
  in_of (Pair a b) e v s w done does = absurd done
  in_of (Fun a b) e v s w done does = absurd done

  -- the contacts of both ends
  result_contact : (t : Type') → IsDone t → contact_at (name_plan n t) (ResultEnd 0) ≡ Some (asks 0 (bits t))
  result_contact Com done = refl
  result_contact (Exp b) done = refl
  result_contact (Var b) done = absurd done
  result_contact (Pair a b) done = absurd done
  result_contact (Fun a b) done = absurd done

  import_contact : (t : Type') → IsDone t → contact_at (name_plan n t) (ImportEnd 0 0) ≡ Some (serves 0 (bits t))
  import_contact Com done = refl
  import_contact (Exp b) done = refl
  import_contact (Var b) done = absurd done
  import_contact (Pair a b) done = absurd done
  import_contact (Fun a b) done = absurd done

  no_part : (t : Type') (i : ℕ) (k : Slot) (s w : Tokens) → Does (name_plan n t) (Fire i k) s w → ⊥
  no_part t i k s w (v, r, lies, fires, leads) = cc fires

  nothing_comes : (a : Option ℕ) (v : ℕ) → a ≡ Some v → a ≡ None → ⊥
  nothing_comes a v some none = not_both a v none some

  -- where both ends stand
  result_stands : (t : Type') → IsDone t → places_of (name_plan n t) (ResultEnd 0) ≡ Some (ResultEnd 0)
  result_stands Com done = refl
  result_stands (Exp b) done = refl
  result_stands (Var b) done = absurd done
  result_stands (Pair a b) done = absurd done
  result_stands (Fun a b) done = absurd done

  import_stands : (t : Type') → IsDone t → places_of (name_plan n t) (ImportEnd 0 0) ≡ Some (ResultEnd 0)
  import_stands Com done = refl
  import_stands (Exp b) done = refl
  import_stands (Var b) done = absurd done
  import_stands (Pair a b) done = absurd done
  import_stands (Fun a b) done = absurd done

  or_false : (b : Bool) → (b || false) ≡ true → b ≡ true
  or_false true e = refl
  or_false false e = e

  false_or : (b : Bool) → b ≡ true → (b || false) ≡ true
  false_or true e = refl
  false_or false e = e

  -- turns are kept where the import is open only while the result is
  whole_keeps : (t : Type') → IsDone t → (past : List Pass) → (is_open past (ImportEnd 0 0) ≡ true → is_open past (ResultEnd 0) ≡ true)
      → KeepsTurnsOf (whole_type (name_plan n t).imports t) (λ h. is_open past (whole_end 0 (name_plan n t).imports h))
  whole_keeps Com done past within =
      (tt, tt, λ asked. false_or (is_open past (ResultEnd 0)) (within (or_false (is_open past (ImportEnd 0 0)) asked)))
  whole_keeps (Exp b) done past within =
      (tt, tt, λ asked. false_or (is_open past (ResultEnd 0)) (within (or_false (is_open past (ImportEnd 0 0)) asked)))
  whole_keeps (Var b) done past within = absurd done
  whole_keeps (Pair a b) done past within = absurd done
  whole_keeps (Fun a b) done past within = absurd done

  -- where the plan is idle the program can only wait
  idle_is_stalled : (t : Type') → Stalled (program_of (name_plan n t) (Import n)) Idle
  idle_is_stalled t = (λ d move. let e = move.0 in cc e, λ o d out move. run_is_no_output o out move.0)

  -- the steps of the program, by the type
  asks_by_type : (t : Type') → IsDone t → import_type (name_plan n t).imports n ≡ Some t
      → Emits (name_plan n t).imports (taken n 0 0) (Import n) (Wait n 1)
  asks_by_type Com done k = inl (k, refl, refl)
  asks_by_type (Exp b) done k = inr (b, k, refl, refl)
  asks_by_type (Var b) done k = absurd done
  asks_by_type (Pair a b) done k = absurd done
  asks_by_type (Fun a b) done k = absurd done

  answers_by_type : (t : Type') → IsDone t → (v : ℕ) → v < 2 ^ bits t → import_type (name_plan n t).imports n ≡ Some t
      → IsAnswer (import_type (name_plan n t).imports n) 1 v (left t v)
  answers_by_type Com done v small k =
      let none : v ≡ 0 = omega (arith, small) in
      subst (λ (o : Option Type'). IsAnswer o 1 v terms.Skip) (sym k) (none, refl)
  answers_by_type (Exp b) done v small k = subst (λ (o : Option Type'). IsAnswer o 1 v (terms.Lit v b)) (sym k) (small, refl)
  answers_by_type (Var b) done v small k = absurd done
  answers_by_type (Pair a b) done v small k = absurd done
  answers_by_type (Fun a b) done v small k = absurd done

  result_answers : (t : Type') → IsDone t → (v : ℕ) → v < 2 ^ bits t → Answers (given 1 v) (left t v)
  result_answers Com done v small = let none : v ≡ 0 = omega (arith, small) in inl (refl, ap (given 1) none)
  result_answers (Exp b) done v small = inr (v, b, refl, refl)
  result_answers (Var b) done v small = absurd done
  result_answers (Pair a b) done v small = absurd done
  result_answers (Fun a b) done v small = absurd done

  is_right : (t : Type') → IsDone t → IsRight (name_plan n t)
  is_right Com done = (((0, 0, refl, refl), refl, refl), tt)
  is_right (Exp b) done = (((0, b, refl, refl), refl, refl), tt)
  is_right (Var b) done = absurd done
  is_right (Pair a b) done = absurd done
  is_right (Fun a b) done = absurd done

  pub known : (t : Type') → import_type (name_plan n t).imports n ≡ Some t
  known t = let same : bytes_eq n n ≡ true = (bytes_eq-Decides n n).1 refl in rw same refl

  module _ (t : Type') (done : IsDone t) where
    -- what each element of a stage does to the tokens
    runs_in : (v : ℕ) (s w : Tokens) → Does (name_plan n t) (In (ResultEnd 0) v) s w → w ≡ with_place Request (ResultEnd 0) (Some v) s
    runs_in v s w does =
        elim (in_of t (ResultEnd 0) v s w done does) [
          | inl x ↦ x.2
          | inr x ↦ (let no = x.0 in absurd (cc no))
        ]

    answers_in : (v : ℕ) (s w : Tokens) → Does (name_plan n t) (In (ImportEnd 0 0) v) s w → w ≡ with_place Answer (ResultEnd 0) (Some v) s
    answers_in v s w does =
        elim (in_of t (ImportEnd 0 0) v s w done does) [
          | inl x ↦ (let no = x.0 in absurd (cc no))
          | inr x ↦ x.2
        ]

    asks_out : (v : ℕ) (s w : Tokens) → Does (name_plan n t) (Out (ImportEnd 0 0) v) s w → w ≡ with_place Request (ResultEnd 0) None s
    asks_out v s w does =
        elim (out_of t (ImportEnd 0 0) v s w done does) [
          | inl x ↦ (let no = x.0 in absurd (cc no))
          | inr x ↦ x.2
        ]

    answers_out : (v : ℕ) (s w : Tokens) → Does (name_plan n t) (Out (ResultEnd 0) v) s w → w ≡ with_place Answer (ResultEnd 0) None s
    answers_out v s w does =
        elim (out_of t (ResultEnd 0) v s w done does) [
          | inl x ↦ x.2
          | inr x ↦ (let no = x.0 in absurd (cc no))
        ]

    leads : (q : Stage) (x : Element) (s w : Tokens) → Next t q x → At t q s → Does (name_plan n t) x s w → At t (succ q x) w
    leads Resting x s w next here does =
        let to = runs_in 0 s w (subst (λ (y : Element). Does (name_plan n t) y s w) next does) in
        subst (λ (y : Tokens). Lies (ResultEnd 0) (Some 0) None y) (sym to) (with_request (ResultEnd 0) None None (Some 0) s here)
    leads Asked x s w next here does =
        let to = asks_out 0 s w (subst (λ (y : Element). Does (name_plan n t) y s w) next does) in
        subst (λ (y : Tokens). Lies (ResultEnd 0) None None y) (sym to) (with_request (ResultEnd 0) (Some 0) None None s here)
    leads Away x s w (v, small, next) here does =
        let to = answers_in v s w (subst (λ (y : Element). Does (name_plan n t) y s w) next does) in
        let number : number_of x ≡ v = ap number_of next in
        subst (λ (k : ℕ). Lies (ResultEnd 0) None (Some k) w × (k < 2 ^ bits t)) (sym number)
        (subst (λ (y : Tokens). Lies (ResultEnd 0) None (Some v) y) (sym to) (with_answer (ResultEnd 0) None None (Some v) s here), small)
    leads (Back v) x s w (next, small) (here, low) does =
        let to = answers_out v s w (subst (λ (y : Element). Does (name_plan n t) y s w) next does) in
        subst (λ (y : Tokens). Lies (ResultEnd 0) None None y) (sym to) (with_answer (ResultEnd 0) None (Some v) None s here)

    -- an output where these lie on the joint
    goes_out : (a b : Option ℕ) (e : End) (v : ℕ) (s w : Tokens) → Lies (ResultEnd 0) a b s → Does (name_plan n t) (Out e v) s w
        → ((e ≡ ResultEnd 0) × (b ≡ Some v)) ⊎ ((e ≡ ImportEnd 0 0) × (a ≡ Some v))
    goes_out a b e v s w here does =
        elim (out_of t e v s w done does) [
          | inl x ↦ inl (x.0, sym here.answer ∙ x.1)
          | inr x ↦ inr (x.0, sym here.request ∙ x.1)
        ]

    puts_out : (q : Stage) (e : End) (v : ℕ) (s w : Tokens) → At t q s → Does (name_plan n t) (Out e v) s w → Next t q (Out e v)
    puts_out Resting e v s w here does =
        elim (goes_out None None e v s w here does) [
          | inl x ↦ (let no = x.1 in absurd (cc no))
          | inr x ↦ (let no = x.1 in absurd (cc no))
        ]
    puts_out Asked e v s w here does =
        elim (goes_out (Some 0) None e v s w here does) [
          | inl x ↦ (let no = x.1 in absurd (cc no))
          | inr x ↦ (let lies = x.1 in
              let zero_is : v ≡ 0 = sym (cc lies) in
              λ i. Out (x.0 i) (zero_is i))
        ]
    puts_out Away e v s w here does =
        elim (goes_out None None e v s w here does) [
          | inl x ↦ (let no = x.1 in absurd (cc no))
          | inr x ↦ (let no = x.1 in absurd (cc no))
        ]
    puts_out (Back k) e v s w (here, low) does =
        elim (goes_out None (Some k) e v s w here does) [
          | inl x ↦ (let lies = x.1 in
              let same : v ≡ k = sym (cc lies) in
              (λ i. Out (x.0 i) (same i), low))
          | inr x ↦ (let no = x.1 in absurd (cc no))
        ]

    -- which input may come in a stage, by what must be open for each
    comes_in : (q : Stage) (e : End) (v : ℕ) (f : End → Bool) (s w : Tokens) → Opened q f → Does (name_plan n t) (In e v) s w
        → (e ≡ ResultEnd 0 → f (ResultEnd 0) ≡ false) → (e ≡ ImportEnd 0 0 → f (ImportEnd 0 0) ≡ true) → Next t q (In e v)
    comes_in q e v f s w o does run answer = by_end q o (in_of t e v s w done does)
      where
        none : v < 2 ^ 0 → v ≡ 0
        none small = omega (arith, small)

        by_end : (q : Stage) → Opened q f → PutsAt (ResultEnd 0) Request 0 e v s w ⊎ PutsAt (ImportEnd 0 0) Answer (bits t) e v s w → Next t q (In e v)
        by_end Resting o (inl (is, small, to)) = λ i. In (is i) (none small i)
        by_end Resting o (inr (is, small, to)) = absurd (true_is_not_false (f (ImportEnd 0 0)) (answer is) o.1)
        by_end Asked o (inl (is, small, to)) = absurd (true_is_not_false (f (ResultEnd 0)) o.0 (run is))
        by_end Asked o (inr (is, small, to)) = absurd (true_is_not_false (f (ImportEnd 0 0)) (answer is) o.1)
        by_end Away o (inl (is, small, to)) = absurd (true_is_not_false (f (ResultEnd 0)) o.0 (run is))
        by_end Away o (inr (is, small, to)) = (v, small, λ i. In (is i) v)
        by_end (Back k) o (inl (is, small, to)) = absurd (true_is_not_false (f (ResultEnd 0)) o.0 (run is))
        by_end (Back k) o (inr (is, small, to)) = absurd (true_is_not_false (f (ImportEnd 0 0)) (answer is) o.1)

    run_shut : (e : End) (past : List Pass) → e ≡ ResultEnd 0 → ComesInTurn past e (way_in (contact_at (name_plan n t) e)) → is_open past (ResultEnd 0) ≡ false
    run_shut e past is turn =
        let there = subst (λ (x : End). ComesInTurn past x (way_in (contact_at (name_plan n t) x))) is turn in
        subst (λ (c : Option Contact). ComesInTurn past (ResultEnd 0) (way_in c)) (result_contact t done) there

    answer_due : (e : End) (past : List Pass) → e ≡ ImportEnd 0 0 → ComesInTurn past e (way_in (contact_at (name_plan n t) e)) → is_open past (ImportEnd 0 0) ≡ true
    answer_due e past is turn =
        let there = subst (λ (x : End). ComesInTurn past x (way_in (contact_at (name_plan n t) x))) is turn in
        subst (λ (c : Option Contact). ComesInTurn past (ImportEnd 0 0) (way_in c)) (import_contact t done) there

    in_turn : (q : Stage) (e : End) (v : ℕ) (s w : Tokens) (past : List Pass)
        → Does (name_plan n t) (In e v) s w → Opened q (is_open past) → ComesInTurn past e (way_in (contact_at (name_plan n t) e)) → Next t q (In e v)
    in_turn q e v s w past does o turn =
        comes_in q e v (is_open past) s w o does (λ is. run_shut e past is turn) (λ is. answer_due e past is turn)

    result_place : places_of (name_plan n t) (ResultEnd 0) ≡ Some (ResultEnd 0)
    result_place = result_stands t done

    import_place : places_of (name_plan n t) (ImportEnd 0 0) ≡ Some (ResultEnd 0)
    import_place = import_stands t done

    result_named : handshake_at (name_plan n t) (ResultEnd 0) ≡ ResultEnd 0
    result_named = ap (λ (d : Option End). named_by d (ResultEnd 0)) result_place

    import_named : handshake_at (name_plan n t) (ImportEnd 0 0) ≡ ResultEnd 0
    import_named = ap (λ (d : Option End). named_by d (ImportEnd 0 0)) import_place

    passed : (q : Stage) (x : Element) (past : List Pass) → Next t q x → Opened q (is_open past) → Opened (succ q x) (is_open (after (name_plan n t) x past))
    passed Resting x past next o =
        subst (λ (y : Element). Opened Asked (is_open (after (name_plan n t) y past))) (sym next)
        (subst (λ (c : Option Contact). Opened Asked (is_open (pass (ResultEnd 0) (way_in c) ∷ past))) (sym (result_contact t done)) (refl, o.1))
    passed Asked x past next o =
        subst (λ (y : Element). Opened Away (is_open (after (name_plan n t) y past))) (sym next)
        (subst (λ (c : Option Contact). Opened Away (is_open (pass (ImportEnd 0 0) (way_out c) ∷ past))) (sym (import_contact t done)) (o.0, refl))
    passed Away x past (v, small, next) o =
        subst (λ (y : Element). Opened (Back 0) (is_open (after (name_plan n t) y past))) (sym next)
        (subst (λ (c : Option Contact). Opened (Back 0) (is_open (pass (ImportEnd 0 0) (way_in c) ∷ past))) (sym (import_contact t done)) (o.0, refl))
    passed (Back v) x past (next, low) o =
        subst (λ (y : Element). Opened Resting (is_open (after (name_plan n t) y past))) (sym next)
        (subst (λ (c : Option Contact). Opened Resting (is_open (pass (ResultEnd 0) (way_out c) ∷ past))) (sym (result_contact t done)) (refl, o.1))

    turns : (q : Stage) (x : Element) (past : List Pass) → Next t q x → Opened q (is_open past) → OutputTurns (name_plan n t) past x
    turns Resting x past next o = subst (OutputTurns (name_plan n t) past) (sym next) tt
    turns Away x past (v, small, next) o = subst (OutputTurns (name_plan n t) past) (sym next) tt
    turns Asked x past next o =
        subst (OutputTurns (name_plan n t) past) (sym next)
        (subst (λ (c : Option Contact). KeepsTurns (name_plan n t) past (pass (ImportEnd 0 0) (way_out c))) (sym (import_contact t done))
        (o.1, whole_keeps t done (pass (ImportEnd 0 0) Request ∷ past) (λ up. o.0)))
    turns (Back v) x past (next, low) o =
        subst (OutputTurns (name_plan n t) past) (sym next)
        (subst (λ (c : Option Contact). KeepsTurns (name_plan n t) past (pass (ResultEnd 0) (way_out c))) (sym (result_contact t done))
        (o.0, whole_keeps t done (pass (ResultEnd 0) Answer ∷ past) (λ up. absurd (true_is_not_false (is_open past (ImportEnd 0 0)) up o.1))))

    -- an input at the result, and one at the import, come in order; and outputs
    run_comes : (s : Tokens) (o : Open) → o (ResultEnd 0) ≡ false → ComesInOrder (name_plan n t) (In (ResultEnd 0) 0) s o (with_open (ResultEnd 0) true o)
    run_comes s o now c there =
        let is : asks 0 (bits t) ≡ c = let both = sym (result_contact t done) ∙ there in cc both in
        subst (λ (d : Contact). ComesWell (name_plan n t) (ResultEnd 0) (way_put d.role) o s × (with_open (ResultEnd 0) true o ≡ after_put (name_plan n t) (ResultEnd 0) (way_put d.role) o)) is
        (subst (λ (e : End). o e ≡ false) (sym result_named) now, ap (λ (e : End). with_open e true o) (sym result_named))

    ask_goes : (v : ℕ) (s : Tokens) (o : Open) → ComesInOrder (name_plan n t) (Out (ImportEnd 0 0) v) s o o
    ask_goes v s o c there =
        let is : serves 0 (bits t) ≡ c = let both = sym (import_contact t done) ∙ there in cc both in
        subst (λ (d : Contact). o ≡ after_taken (name_plan n t) (ImportEnd 0 0) (way_taken d.role) o) is refl

    answer_comes : (v : ℕ) (s : Tokens) (o : Open)
        → o (ResultEnd 0) ≡ true → s.in_place Request (ResultEnd 0) ≡ None → s.in_place Answer (ResultEnd 0) ≡ None
        → ComesInOrder (name_plan n t) (In (ImportEnd 0 0) v) s o o
    answer_comes v s o now asked answered c there =
        let is : serves 0 (bits t) ≡ c = let both = sym (import_contact t done) ∙ there in cc both in
        subst (λ (d : Contact). ComesWell (name_plan n t) (ImportEnd 0 0) (way_put d.role) o s × (o ≡ after_put (name_plan n t) (ImportEnd 0 0) (way_put d.role) o)) is
        ((subst (λ (e : End). o e ≡ true) (sym import_named) now, nothing_lies), refl)
      where
        nothing_lies : IsEmptyAt (name_plan n t) s (ImportEnd 0 0)
        nothing_lies Request = subst (λ (d : Option End). held_at s Request d ≡ None) (sym import_place) asked
        nothing_lies Answer = subst (λ (d : Option End). held_at s Answer d ≡ None) (sym import_place) answered

    answer_goes : (v : ℕ) (s : Tokens) (o : Open) → ComesInOrder (name_plan n t) (Out (ResultEnd 0) v) s o (with_open (ResultEnd 0) false o)
    answer_goes v s o c there =
        let is : asks 0 (bits t) ≡ c = let both = sym (result_contact t done) ∙ there in cc both in
        subst (λ (d : Contact). with_open (ResultEnd 0) false o ≡ after_taken (name_plan n t) (ResultEnd 0) (way_taken d.role) o) is
        (ap (λ (e : End). with_open e false o) (sym result_named))

    comes : (q : Stage) (x : Element) (s w : Tokens) (o : Open)
        → Next t q x → At t q s → OpenAt q o → Does (name_plan n t) x s w → (u : Open) × ComesInOrder (name_plan n t) x s o u × OpenAt (succ q x) u
    comes Resting x s w o next here now does = (
      with_open (ResultEnd 0) true o,
      subst (λ (y : Element). ComesInOrder (name_plan n t) y s o (with_open (ResultEnd 0) true o)) (sym next) (run_comes s o now),
      refl,
    )
    comes Asked x s w o next here now does =
        (o, subst (λ (y : Element). ComesInOrder (name_plan n t) y s o o) (sym next) (ask_goes 0 s o), now)
    comes Away x s w o (v, small, next) here now does =
        (o, subst (λ (y : Element). ComesInOrder (name_plan n t) y s o o) (sym next) (answer_comes v s o now here.request here.answer), now)
    comes (Back v) x s w o (next, low) here now does = (
      with_open (ResultEnd 0) false o,
      subst (λ (y : Element). ComesInOrder (name_plan n t) y s o (with_open (ResultEnd 0) false o)) (sym next) (answer_goes v s o),
      refl,
    )

    -- no part is there to take a token
    welcome : (q : Stage) (s : Tokens) → At t q s → AllWelcome (name_plan n t) s
    welcome q s here i (Req h) k v there way lies = absurd (cc there)
    welcome q s here i (Ans h) k v there way lies = absurd (cc there)

    can_ask : (v : ℕ) (s : Tokens) → s.in_place Request (ResultEnd 0) ≡ Some v
        → Does (name_plan n t) (Out (ImportEnd 0 0) v) s (with_token (name_plan n t) (ImportEnd 0 0) Request None s)
    can_ask v s lies = (
      tt,
      subst (λ (c : Option Contact). Passes (name_plan n t) (Out (ImportEnd 0 0) v) c s (with_token (name_plan n t) (ImportEnd 0 0) Request None s)) (sym (import_contact t done))
          (subst (λ (d : Option End). held_at s Request d ≡ Some v) (sym import_place) lies, refl),
    )

    can_answer : (v : ℕ) (s : Tokens) → s.in_place Answer (ResultEnd 0) ≡ Some v
        → Does (name_plan n t) (Out (ResultEnd 0) v) s (with_token (name_plan n t) (ResultEnd 0) Answer None s)
    can_answer v s lies = (
      tt,
      subst (λ (c : Option Contact). Passes (name_plan n t) (Out (ResultEnd 0) v) c s (with_token (name_plan n t) (ResultEnd 0) Answer None s)) (sym (result_contact t done))
          (subst (λ (d : Option End). held_at s Answer d ≡ Some v) (sym result_place) lies, refl),
    )

    agrees : (q : Stage) (s : Tokens) → At t q s → Agrees (name_plan n t) (program_of (name_plan n t) (Import n)) s (config n t q)
    agrees Resting s here = (λ quiet. idle_is_stalled t, λ e. is_idle (ResultEnd 0) (name_plan n t) s here)
    agrees Asked s here = (
      λ quiet. absurd (quiet.1 (ImportEnd 0 0) 0 (with_token (name_plan n t) (ImportEnd 0 0) Request None s) (can_ask 0 s here.request)),
      λ e. absurd (running_is_not_idle (Import n) e),
    )
    agrees Away s here = (λ quiet. wait_is_stalled n 1 (name_plan n t).imports (Import n) refl, λ e. absurd (running_is_not_idle (Wait n 1) e))
    agrees (Back v) s (here, low) = (
      λ quiet. absurd (quiet.1 (ResultEnd 0) v (with_token (name_plan n t) (ResultEnd 0) Answer None s) (can_answer v s here.answer)),
      λ e. absurd (running_is_not_idle (left t v) e),
    )

    moves : (q : Stage) (x : Element) → Next t q x → Moves (program_of (name_plan n t) (Import n)) (acts n q x) (config n t q) (config n t (succ q x))
    moves Resting x next = (Running (Import n) [], (refl, refl), refl)
    moves Asked x next = (Running (Wait n 1) [], (0, Import n, refl, (inl (inl (asks_by_type t done (known t))), refl)), refl)
    moves Away x (v, small, next) =
        subst (λ (y : Element). Moves (program_of (name_plan n t) (Import n)) (acts n Away y) (config n t Away) (config n t (succ Away y))) (sym next)
        (Running (left t v) [], (0, Wait n 1, refl, (inl (inr (refl, refl, answers_by_type t done v small (known t))), refl)), refl)
    moves (Back v) x (next, low) = (Idle, (0, left t v, refl, result_answers t done v low), refl)

    shown : (q : Stage) (x : Element) → Next t q x → labels (acts n q x) ≡ shows (name_plan n t) x
    shown Resting x next =
        subst (λ (y : Element). given 0 0 ∷ [] ≡ shows (name_plan n t) y) (sym next) refl
    shown Asked x next =
        subst (λ (y : Element). taken n 0 0 ∷ [] ≡ shows (name_plan n t) y) (sym next) refl
    shown Away x (v, small, next) =
        subst (λ (y : Element). taken n 1 (number_of y) ∷ [] ≡ shows (name_plan n t) y) (sym next) refl
    shown (Back v) x (next, low) =
        subst (λ (y : Element). given 1 v ∷ [] ≡ shows (name_plan n t) y) (sym next) refl

    goes_on : (q : Stage) (x : Element) (s : Tokens) → Next t q x → At t q s → GoesOn (name_plan n t) s x (acts n q x)
    goes_on Resting x s next here = subst (λ (y : Element). GoesOn (name_plan n t) s y (acts n Resting y)) (sym next) tt
    goes_on Asked x s next here = subst (λ (y : Element). GoesOn (name_plan n t) s y (acts n Asked y)) (sym next) tt
    goes_on Away x s (v, small, next) here = subst (λ (y : Element). GoesOn (name_plan n t) s y (acts n Away y)) (sym next) tt
    goes_on (Back v) x s (next, low) here = subst (λ (y : Element). GoesOn (name_plan n t) s y (acts n (Back v) y)) (sym next) tt

    track : IsTrack (name_plan n t) Stage (Next t) succ (At t) OpenAt Opened
    track =
        record {
          leads = leads;
          fires = λ q i k s w here does. absurd (no_part t i k s w does);
          puts_out = puts_out;
          in_turn = λ q e v s u past does o here turn. in_turn q e v s u past does o turn.0;
          passed = passed;
          turns = turns;
          comes = comes;
          welcome = welcome;
        }

    whole : IsProgramTrack (name_plan n t) (program_of (name_plan n t) (Import n)) Stage (Next t) succ (acts n) (config n t) (At t) OpenAt Opened
    whole =
        record {
          track = track;
          agrees = agrees;
          moves = moves;
          shown = shown;
          goes_on = goes_on;
        }

    first : IsFirst (name_plan n t) Stage (At t) OpenAt Opened Resting
    first =
        record {
          rests = λ s idle. rests_alone (ResultEnd 0) (name_plan n t) s idle;
          none = refl;
          closed = (refl, refl);
        }

    pub name_is_regular : IsRegular (name_plan n t)
    name_is_regular = track_is_regular (name_plan n t) Stage (Next t) succ (At t) OpenAt Opened track Resting first

    pub name_realises : RealisesInTurn (name_plan n t) (Import n)
    name_realises =
        track_realises (name_plan n t) (Import n) Stage (Next t) succ (acts n) (config n t) (At t) OpenAt Opened whole Resting refl first

done_is_ground : (t : Type') → IsDone t → IsGround t
done_is_ground Com done = tt
done_is_ground (Exp b) done = tt
done_is_ground (Var b) done = absurd done
done_is_ground (Pair a b) done = absurd done
done_is_ground (Fun a b) done = absurd done

-- it suits its type
suits : (n : Name) (t : Type') → IsDone t → Suits t (name_plan n t) (Import n)
suits n t done =
    record {
      right = is_right n t done;
      literals = no_literals;
      outcome = refl;
      all_ports = (inl (done_is_ground t done), tt);
      names = (λ j there. absurd (none_in_empty j there), tt);
      typed = known n t;
      regular = name_is_regular n t done;
    }

means : (n : Name) (t : Type') → IsDone t → Means t (name_plan n t) (Import n)
means n Com done = name_realises n Com done
means n (Exp b) done = name_realises n (Exp b) done
means n (Var b) done = absurd done
means n (Pair a b) done = absurd done
means n (Fun a b) done = absurd done

pub done_name_is_realised : (n : Name) (t : Type') → IsDone t → Realises t (name_plan n t) (Import n)
done_name_is_realised n t done = record { suits = suits n t done; means = means n t done }
