-- A regular plan that rests after its answer is idle wherever its result is closed: then nothing of an import is open, so nothing comes in.
use Rattle.std.proofs.Common.{◌≡◌, ℕ, Option, true, false, List, [], ◌∷◌, ◌++◌, Some, inl, inr, refl, sym, ◌∙◌, ap, subst}
use Rattle.gos_types.specs.declared.shakes.Role.{Role}
use Rattle.gos_types.specs.declared.shakes.Role.TheVariants.{Serve, Ask}
use Rattle.gos_types.specs.Types.{IsDone}
use Rattle.gos_types.specs.Events.{Direction, Request}
use Rattle.gos_types.proofs.BoolLemmas.{true_is_not_false}
use Rattle.gos_plan.specs.Kinds.{Contact}
use Rattle.gos_plan.specs.Plans.{End, ImportEnd, ResultEnd, Plan, contact_at}
use Rattle.gos_plan.specs.Tokens.{Tokens, Element, Fire, Out, In, token_at, end_of, way_of, way_put, way_taken, Passes, Does, Runs, IsIdle}
use Rattle.gos_plan.specs.Orderly.{IsOrderly}
use Rattle.gos_realises.specs.realises.Regular.{Pass, pass, way_in, way_out, is_request, is_open, ComesInTurn, KeepsTurns, InputsKeepTurns, OutputsKeepTurns, IsRegular}
use Rattle.gos_realises.proofs.realises.InputLemmas.{passed, passed_then, inputs_then, outputs_last, runs_then, in_there, out_there}
use Rattle.gos_realises.proofs.realises.IdleLemmas.{idle_token}
use Rattle.gos_realises.proofs.realises.RingLemmas.{after}
use Rattle.gos_nodes.specs.windows.Nodes.{IsRestful}
use Rattle.gos_nodes.proofs.windows.PortLemmas.{port_end}
use Rattle.gos_nodes.proofs.windows.TurnLemmas.{Turned, closed_turned, import_result, asked_beside, result_in}

module _ (p : Plan) (done : IsDone p.outcome) (regular : IsRegular p) (restful : IsRestful p) (first : Tokens) (idle : IsIdle p first) where
  abbrev Resting' : List Pass → Tokens → Type 0
  Resting' past s = is_open past (ResultEnd 0) ≡ false → IsIdle p s

  -- no input at an import where the result is closed
  no_input : (past : List Pass) (i h : ℕ) (c : Contact) → Turned p past → is_open past (ResultEnd 0) ≡ false → contact_at p (ImportEnd i h) ≡ Some c
      → KeepsTurns p past (pass (ImportEnd i h) (way_put c.role)) → (role : Role) → c.role ≡ role → ⊥
  no_input past i h c turned shut there turn Serve serves =
      true_is_not_false (is_open past (ResultEnd 0))
      (import_result p done past turned i h c there (subst (ComesInTurn past (ImportEnd i h)) (ap way_put serves) turn.0)) shut
  no_input past i h c turned shut there turn Ask asks =
      let now : Turned p (pass (ImportEnd i h) Request ∷ past) = subst (λ (way : Direction). Turned p (pass (ImportEnd i h) way ∷ past)) (ap way_put asks) turn.1 in
      let (n, x, is, up) = asked_beside p past i h c now there asks in
      true_is_not_false (is_open past (ResultEnd 0)) (import_result p done past turned i n x is up) shut

  -- after one element more
  out_rests : (ys : List Element) (e : End) (v : ℕ) (s w : Tokens) → Runs p ys first s → InputsKeepTurns p [] ys → Resting' (passed p [] ys) s → Does p (Out e v) s w
      → Resting' (after p (Out e v) (passed p [] ys)) w
  out_rests ys e v s w runs inputs rests does shut =
      elim (port_end p done e there.0 does.0 there.1) [
        | inl result ↦ of_result (result.0)
        | inr import ↦ absurd (of_import import.0 import.1 import.2)
      ]
    where
      there : (c : Contact) × (contact_at p e ≡ Some c)
      there = out_there p e v s w does

      held : token_at p s e (way_taken there.0.role) ≡ Some v
      held = (subst (λ (o : Option Contact). Passes p (Out e v) o s w) there.1 does.1).0

      of_result : e ≡ ResultEnd 0 → IsIdle p w
      of_result is =
          restful first w ys v idle (runs_then p ys (Out (ResultEnd 0) v) first s w runs (subst (λ (x : End). Does p (Out x v) s w) is does))
          (inputs_then p [] ys (Out (ResultEnd 0) v ∷ []) inputs tt)

      of_import : (i h : ℕ) → e ≡ ImportEnd i h → ⊥
      of_import i h is =
          idle_token p s
          (rests (subst (λ (x : End). is_open (pass x (way_out (contact_at p x)) ∷ passed p [] ys) (ResultEnd 0) ≡ false) is shut)) e (way_taken there.0.role) v held

  in_rests : (past : List Pass) (e : End) (v : ℕ) (s w : Tokens) → Turned p past → Resting' past s → Does p (In e v) s w → KeepsTurns p past (pass e (way_in (contact_at p e)))
      → Resting' (after p (In e v) past) w
  in_rests past e v s w turned rests does turn shut =
      elim (port_end p done e there.0 does.0 there.1) [
        | inl result ↦ absurd (of_result result.0)
        | inr import ↦ absurd (of_import import.0 import.1 import.2)
      ]
    where
      there : (c : Contact) × (contact_at p e ≡ Some c)
      there = in_there p e v s w does

      of_result : e ≡ ResultEnd 0 → ⊥
      of_result is =
          let now : is_open (pass (ResultEnd 0) (way_in (contact_at p (ResultEnd 0))) ∷ past) (ResultEnd 0) ≡ false =
          subst (λ (x : End). is_open (pass x (way_in (contact_at p x)) ∷ past) (ResultEnd 0) ≡ false) is shut in
          let clash : true ≡ false = sym (ap is_request (result_in p done)) ∙ now in cc clash

      of_import : (i h : ℕ) → e ≡ ImportEnd i h → ⊥
      of_import i h is =
          no_input past i h there.0 turned (subst (λ (x : End). is_open (pass x (way_in (contact_at p x)) ∷ past) (ResultEnd 0) ≡ false) is shut) (ap (contact_at p) (sym is) ∙ there.1)
          (subst (λ (x : End). KeepsTurns p past (pass x (way_put there.0.role))) is (subst (λ (way : Direction). KeepsTurns p past (pass e way)) (ap way_in there.1) turn))
          there.0.role refl

  along : (xs ys : List Element) (s t : Tokens) → Runs p ys first s → InputsKeepTurns p [] ys → Turned p (passed p [] ys) → Resting' (passed p [] ys) s → Runs p xs s t
      → InputsKeepTurns p (passed p [] ys) xs → Resting' (passed p (passed p [] ys) xs) t
  along [] ys s t before inputs turned rests runs turns = λ shut. subst (λ (x : Tokens). IsIdle p x) (sym runs) (rests shut)
  along (Fire i slot ∷ xs) ys s t before inputs turned rests (w, does, runs) turns =
      subst (λ (l : List Pass). Resting' (passed p l xs) t) (passed_then p [] ys (Fire i slot))
      (along xs (ys ++ Fire i slot ∷ []) w t (runs_then p ys (Fire i slot) first s w before does) (inputs_then p [] ys (Fire i slot ∷ []) inputs tt)
      (subst (Turned p) (sym (passed_then p [] ys (Fire i slot))) turned)
      (subst (λ (l : List Pass). Resting' l w) (sym (passed_then p [] ys (Fire i slot)))
      (λ shut. absurd (idle_token p s (rests shut) (end_of i slot) (way_of slot) does.0 does.2))) runs
      (subst (λ (l : List Pass). InputsKeepTurns p l xs) (sym (passed_then p [] ys (Fire i slot))) turns))
  along (Out e v ∷ xs) ys s t before inputs turned rests (w, does, runs) turns =
      subst (λ (l : List Pass). Resting' (passed p l xs) t) (passed_then p [] ys (Out e v))
      (along xs (ys ++ Out e v ∷ []) w t so_far kept
      (subst (Turned p) (sym (passed_then p [] ys (Out e v))) (outputs_last p [] ys (Out e v ∷ []) all.1).0.1)
      (subst (λ (l : List Pass). Resting' l w) (sym (passed_then p [] ys (Out e v))) (out_rests ys e v s w before inputs rests does)) runs
      (subst (λ (l : List Pass). InputsKeepTurns p l xs) (sym (passed_then p [] ys (Out e v))) turns))
    where
      so_far : Runs p (ys ++ Out e v ∷ []) first w
      so_far = runs_then p ys (Out e v) first s w before does

      kept : InputsKeepTurns p [] (ys ++ Out e v ∷ [])
      kept = inputs_then p [] ys (Out e v ∷ []) inputs tt

      all : IsOrderly p (ys ++ Out e v ∷ []) first × OutputsKeepTurns p [] (ys ++ Out e v ∷ [])
      all = regular first w (ys ++ Out e v ∷ []) idle so_far kept
  along (In e v ∷ xs) ys s t before inputs turned rests (w, does, runs) turns =
      subst (λ (l : List Pass). Resting' (passed p l xs) t) (passed_then p [] ys (In e v))
      (along xs (ys ++ In e v ∷ []) w t (runs_then p ys (In e v) first s w before does) (inputs_then p [] ys (In e v ∷ []) inputs (turns.0, tt))
      (subst (Turned p) (sym (passed_then p [] ys (In e v))) turns.0.1)
      (subst (λ (l : List Pass). Resting' l w) (sym (passed_then p [] ys (In e v))) (in_rests (passed p [] ys) e v s w turned rests does turns.0)) runs
      (subst (λ (l : List Pass). InputsKeepTurns p l xs) (sym (passed_then p [] ys (In e v))) turns.1))

pub closed_rests : (p : Plan) (hs : List Element) (s t : Tokens) → IsDone p.outcome → IsRegular p → IsRestful p → IsIdle p s → Runs p hs s t → InputsKeepTurns p [] hs
    → is_open (passed p [] hs) (ResultEnd 0) ≡ false → IsIdle p t
closed_rests p hs s t done regular restful idle runs inputs =
    along p done regular restful s idle hs [] s t refl tt (closed_turned p done [] (λ k h. refl)) (λ shut. idle) runs inputs
