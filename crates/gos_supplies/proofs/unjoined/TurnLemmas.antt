-- What passes the plan's ports keeps turns in the whole where it does in the plan, and back: at loose imports nothing is
-- open.
use Rattle.std.specs.Prelude.{◌≡◌, ℕ, ◌+◌, Bool, true, false, IsTrue, List, [], ◌∷◌, Option, Some, None, slice_get, if◌then◌else◌}
use Rattle.std.proofs.Common.{refl, sym, ◌∙◌, ap, subst, arith}
use Rattle.gos_types.specs.Types.{Type'}
use Rattle.gos_types.specs.Events.{Direction, Request, Answer}
use Rattle.gos_model.specs.Typing.{Imported}
use Rattle.gos_plan.specs.Kinds.{Contact}
use Rattle.gos_plan.specs.Plans.{End, ImportEnd, ResultEnd, Plan, contact_at}
use Rattle.gos_plan.specs.Tokens.{Element, Fire, Out, In}
use Rattle.gos_realises.specs.realises.Regular.{Pass, pass, way_in, way_out, is_request, is_open, count, some_open, KeepsTurnsOf, whole_end, ComesInTurn, KeepsTurns, InputsKeepTurns, OutputsKeepTurns}
use Rattle.gos_realises.proofs.realises.GroundTurnLemmas.{some_there}
use Rattle.gos_joining.proofs.renumbered.TurnLemmas.{of_import, of_result, ImportKeeps, EachKeeps, keeps_each, each_keeps}
use Rattle.gos_supplies.specs.unjoined.Beside.{Placing, placed}
use Rattle.gos_supplies.proofs.unjoined.PlacedLemmas.{IsPlaced, end_in, import_if, same_placed, other_loose, contact_placed}
use Rattle.gos_supplies.proofs.unjoined.TokenLemmas.{set, set_list}
use Rattle.gos_supplies.proofs.turns.WholeLemmas.{shut_turned}

-- what passed the plan passed the whole
abbrev pub set_pass : Placing → Pass → Pass
set_pass f x = pass (placed f x.end) x.way

abbrev pub set_passes : Placing → List Pass → List Pass
set_passes f [] = []
set_passes f (x ∷ past) = set_pass f x ∷ set_passes f past

module _ (f : Placing) (r c : Plan) (is : IsPlaced f r c) where
  pub open_placed : (past : List Pass) (e : End) → is_open (set_passes f past) (placed f e) ≡ is_open past e
  open_placed [] e = refl
  open_placed (x ∷ past) e = λ i. if same_placed f r c is x.end e i then is_request x.way else open_placed past e i

  pub loose_closed : (past : List Pass) (e : End) → end_in f e ≡ None → is_open (set_passes f past) e ≡ false
  loose_closed [] e loose = refl
  loose_closed (x ∷ past) e loose =
      ap (λ (b : Bool). if b then is_request x.way else is_open (set_passes f past) e) (other_loose f r c is e x.end loose) ∙ loose_closed past e loose

  in_turn_own : (past : List Pass) (e : End) (way : Direction) → ComesInTurn (set_passes f past) (placed f e) way → ComesInTurn past e way
  in_turn_own past e Request turn = sym (open_placed past e) ∙ turn
  in_turn_own past e Answer turn = sym (open_placed past e) ∙ turn

  in_turn_whole : (past : List Pass) (e : End) (way : Direction) → ComesInTurn past e way → ComesInTurn (set_passes f past) (placed f e) way
  in_turn_whole past e Request turn = open_placed past e ∙ turn
  in_turn_whole past e Answer turn = open_placed past e ∙ turn

  import_same : (past : List Pass) (i : ℕ) → of_import (is_open (set_passes f past)) (f.import i) ≡ of_import (is_open past) i
  import_same past i = λ k h. open_placed past (ImportEnd i h) k

  result_same : (past : List Pass) → of_result (is_open (set_passes f past)) ≡ of_result (is_open past)
  result_same past = λ k h. open_placed past (ResultEnd h) k

  abbrev Shown : Imported → Type' → (ℕ → Bool) → (ℕ → Bool) → Type 0
  Shown x t g h = KeepsTurnsOf x.ty g × (IsTrue (some_open (count x.ty) g) → IsTrue (some_open (count t) h))

  each_own : (past : List Pass) → EachKeeps 0 r.imports r.outcome (is_open (set_passes f past)) → EachKeeps 0 c.imports c.outcome (is_open past)
  each_own past (each, result) = (
    λ i x at.
        (let zeros : 0 + f.import i ≡ f.import i = omega arith in
        let zero_i : i ≡ 0 + i = omega arith in
        let there : ImportKeeps (is_open (set_passes f past)) (0 + f.import i) x r.outcome = each (f.import i) x (is.imports i ∙ at) in
        let plain : ImportKeeps (is_open (set_passes f past)) (f.import i) x r.outcome =
        subst (λ (m : ℕ). ImportKeeps (is_open (set_passes f past)) m x r.outcome) zeros there
        in
        let of_c : ImportKeeps (is_open (set_passes f past)) (f.import i) x c.outcome =
        subst (λ (t : Type'). ImportKeeps (is_open (set_passes f past)) (f.import i) x t) is.outcome plain
        in
        let shown : Shown x c.outcome (of_import (is_open past) i) (of_result (is_open past)) =
        subst (λ (g : ℕ → Bool). Shown x c.outcome g (of_result (is_open past))) (import_same past i)
        (subst (λ (h : ℕ → Bool). Shown x c.outcome (of_import (is_open (set_passes f past)) (f.import i)) h) (result_same past) of_c)
        in
        subst (λ (m : ℕ). ImportKeeps (is_open past) m x c.outcome) zero_i shown),
    subst (λ (t : Type'). KeepsTurnsOf t (of_result (is_open past))) is.outcome (subst (KeepsTurnsOf r.outcome) (result_same past) result),
  )

  each_whole : (past : List Pass) → EachKeeps 0 c.imports c.outcome (is_open past) → EachKeeps 0 r.imports r.outcome (is_open (set_passes f past))
  each_whole past (each, result) = (
    one,
    subst (λ (t : Type'). KeepsTurnsOf t (of_result (is_open (set_passes f past)))) (sym is.outcome)
        (subst (KeepsTurnsOf c.outcome) (sym (result_same past)) result),
  )
    where
      of_own : (i j : ℕ) (x : Imported) → slice_get r.imports i ≡ Some x → f.import j ≡ i → ImportKeeps (is_open (set_passes f past)) (0 + i) x r.outcome
      of_own i j x at lands =
          let zeros : 0 + j ≡ j = omega arith in
          let sum : f.import j ≡ 0 + i = omega (arith, lands) in
          let at_c : slice_get c.imports j ≡ Some x = sym (is.imports j) ∙ (ap (slice_get r.imports) lands ∙ at) in
          let plain : ImportKeeps (is_open past) j x c.outcome =
          subst (λ (m : ℕ). ImportKeeps (is_open past) m x c.outcome) zeros (each j x at_c)
          in
          let of_r : ImportKeeps (is_open past) j x r.outcome =
          subst (λ (t : Type'). ImportKeeps (is_open past) j x t) (sym is.outcome) plain
          in
          let shown : Shown x r.outcome (of_import (is_open (set_passes f past)) (f.import j)) (of_result (is_open (set_passes f past))) =
          subst (λ (g : ℕ → Bool). Shown x r.outcome g (of_result (is_open (set_passes f past)))) (sym (import_same past j))
          (subst (λ (h : ℕ → Bool). Shown x r.outcome (of_import (is_open past) j) h) (sym (result_same past)) of_r)
          in
          subst (λ (m : ℕ). ImportKeeps (is_open (set_passes f past)) m x r.outcome) sum shown

      of_loose : (i : ℕ) (x : Imported) → slice_get r.imports i ≡ Some x → f.import_number i ≡ None → ImportKeeps (is_open (set_passes f past)) (0 + i) x r.outcome
      of_loose i x at loose =
          let sum : 0 + i ≡ i = omega arith in
          let closed : (h : ℕ) → of_import (is_open (set_passes f past)) (0 + i) h ≡ false =
          λ h. loose_closed past (ImportEnd (0 + i) h) (ap (λ (n : ℕ). import_if (f.import_number n) h) sum ∙ ap (λ (o : Option ℕ). import_if o h) loose)
          in (
            shut_turned x.ty (of_import (is_open (set_passes f past)) (0 + i)) closed,
            λ busy.
                (let (h, low, up) = some_there (count x.ty) (of_import (is_open (set_passes f past)) (0 + i)) busy in
                let both : true ≡ false = sym up ∙ closed h in absurd (cc both)),
          )

      one : (i : ℕ) (x : Imported) → slice_get r.imports i ≡ Some x → ImportKeeps (is_open (set_passes f past)) (0 + i) x r.outcome
      one i x at = by_number (f.import_number i) refl
        where
          by_number : (o : Option ℕ) → f.import_number i ≡ o → ImportKeeps (is_open (set_passes f past)) (0 + i) x r.outcome
          by_number None loose = of_loose i x at loose
          by_number (Some j) own = of_own i j x at (is.number_import i j own)

  turns_whole : (past : List Pass) (x : Pass) → KeepsTurns c past x → KeepsTurns r (set_passes f past) (set_pass f x)
  turns_whole past x (turn, keeps) = (
    in_turn_whole past x.end x.way turn,
    each_keeps 0 r.imports r.outcome (λ h. is_open (set_passes f (x ∷ past)) (whole_end 0 r.imports h)) (is_open (set_passes f (x ∷ past))) (λ h. refl)
        (each_whole (x ∷ past) (keeps_each 0 c.imports c.outcome (λ h. is_open (x ∷ past) (whole_end 0 c.imports h)) (is_open (x ∷ past)) (λ h. refl) keeps)),
  )

  turns_own : (past : List Pass) (x : Pass) → KeepsTurns r (set_passes f past) (set_pass f x) → KeepsTurns c past x
  turns_own past x (turn, keeps) = (
    in_turn_own past x.end x.way turn,
    each_keeps 0 c.imports c.outcome (λ h. is_open (x ∷ past) (whole_end 0 c.imports h)) (is_open (x ∷ past)) (λ h. refl)
        (each_own (x ∷ past)
        (keeps_each 0 r.imports r.outcome (λ h. is_open (set_passes f (x ∷ past)) (whole_end 0 r.imports h)) (is_open (set_passes f (x ∷ past))) (λ h. refl) keeps)),
  )

  -- along a list
  pub out_pass : (e : End) → pass (placed f e) (way_out (contact_at r (placed f e))) ≡ set_pass f (pass e (way_out (contact_at c e)))
  out_pass e = ap (λ (k : Option Contact). pass (placed f e) (way_out k)) (contact_placed f r c is e)

  pub in_pass : (e : End) → pass (placed f e) (way_in (contact_at r (placed f e))) ≡ set_pass f (pass e (way_in (contact_at c e)))
  in_pass e = ap (λ (k : Option Contact). pass (placed f e) (way_in k)) (contact_placed f r c is e)

  abbrev InThen : List Pass → List Element → Pass → Type 0
  InThen past xs x = KeepsTurns r past x × InputsKeepTurns r (x ∷ past) xs

  -- what is after an element of the plan
  pub inputs_after : (y : Element) (xs : List Element) (past : List Pass) → InputsKeepTurns r (set_passes f past) (set f y ∷ xs)
      → (later : List Pass) × InputsKeepTurns r (set_passes f later) xs
  inputs_after (Fire i t) xs past keeps = (past, keeps)
  inputs_after (Out e v) xs past keeps = (
    pass e (way_out (contact_at c e)) ∷ past,
    subst (λ (x : Pass). InputsKeepTurns r (x ∷ set_passes f past) xs) (out_pass e) keeps,
  )
  inputs_after (In e v) xs past keeps = (
    pass e (way_in (contact_at c e)) ∷ past,
    (subst (InThen (set_passes f past) xs) (in_pass e) keeps).1,
  )

  pub inputs_own : (xs : List Element) (past : List Pass) → InputsKeepTurns r (set_passes f past) (set_list f xs) → InputsKeepTurns c past xs
  inputs_own [] past keeps = tt
  inputs_own (Fire i k ∷ xs) past keeps = inputs_own xs past keeps
  inputs_own (Out e v ∷ xs) past keeps =
      inputs_own xs (pass e (way_out (contact_at c e)) ∷ past)
      (subst (λ (x : Pass). InputsKeepTurns r (x ∷ set_passes f past) (set_list f xs)) (out_pass e) keeps)
  inputs_own (In e v ∷ xs) past keeps =
      let both = subst (InThen (set_passes f past) (set_list f xs)) (in_pass e) keeps in
      (turns_own past (pass e (way_in (contact_at c e))) both.0, inputs_own xs (pass e (way_in (contact_at c e)) ∷ past) both.1)

  abbrev OutThen : List Pass → List Element → Pass → Type 0
  OutThen past xs x = KeepsTurns r past x × OutputsKeepTurns r (x ∷ past) xs

  pub outputs_whole : (xs : List Element) (past : List Pass) → OutputsKeepTurns c past xs
      → OutputsKeepTurns r (set_passes f past) (set_list f xs)
  outputs_whole [] past keeps = tt
  outputs_whole (Fire i k ∷ xs) past keeps = outputs_whole xs past keeps
  outputs_whole (In e v ∷ xs) past keeps =
      subst (λ (x : Pass). OutputsKeepTurns r (x ∷ set_passes f past) (set_list f xs)) (sym (in_pass e))
      (outputs_whole xs (pass e (way_in (contact_at c e)) ∷ past) keeps)
  outputs_whole (Out e v ∷ xs) past keeps =
      subst (OutThen (set_passes f past) (set_list f xs)) (sym (out_pass e)) (
        turns_whole past (pass e (way_out (contact_at c e))) keeps.0,
        outputs_whole xs (pass e (way_out (contact_at c e)) ∷ past) keeps.1,
      )
