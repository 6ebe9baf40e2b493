-- The plans of the two sides of a write, of what is known of them.
use Rattle.std.specs.Prelude.{◌<◌, nat_eq}
use Rattle.std.proofs.Common.{◌≡◌, ℕ, Bool, true, false, List, [], ◌∷◌, ◌++◌, refl, sym, ◌∙◌, ap, subst, arith, if◌then◌else◌}
use Rattle.gos_types.specs.Types.{Var, IsDone}
use Rattle.gos_types.specs.Events.{Direction, Request}
use Rattle.gos_plan.specs.Plans.{End, PartEnd, ImportEnd, ResultEnd, Plan, IsRight, contact_at}
use Rattle.gos_plan.specs.Tokens.{Element, Fire, Out, In, Runs}
use Rattle.gos_realises.specs.realises.Regular.{count, some_open, Pass, pass, way_in, way_out, is_open, IsRegular}
use Rattle.gos_realises.proofs.realises.GroundTurnLemmas.{some_there}
use Rattle.gos_realises.proofs.realises.InputLemmas.{passed, passed_then}
use Rattle.gos_supplies.specs.turns.Rests.{Rests}
use Rattle.gos_supplies.proofs.turns.RestLemmas.{all_shut}
use Rattle.gos_nodes.proofs.windows.TurnLemmas.{Turned}
use Rattle.gos_nodes.specs.windows.OneSession.{AllStay, IsOpenSession, IsRestfulAt}
use Rattle.gos_nodes.specs.assignments.Written.{unread}
use Rattle.gos_nodes.proofs.windows.OneSessionLemmas.{ended_is_one}
use Rattle.gos_nodes.proofs.windows.AskedLemmas.{OnlyAt, asked_in, asked_out, answered_shut}
use Rattle.gos_nodes.proofs.assignments.AskedLemmas.{asked_by}
use Rattle.gos_nodes.proofs.assignments.UnreadLemmas.{unread_regular, unread_runs}
use Rattle.gos_terms.specs.regular_and_resting.Sides.{NumberIsSteady, VariableIsSteady}
use Rattle.gos_terms.proofs.regular_and_resting.RestLemmas.{last_turned, rests_after_answers}

pub number_is_steady : NumberIsSteady
number_is_steady w p outcome regular rests = (
  λ s t xs tidy idle one runs turns. regular s t xs idle runs turns,
  λ s t xs v tidy idle begun runs turns. rests_after_answers p (subst IsDone (sym outcome) tt) regular rests s t xs v idle runs turns,
)

-- what stays within a session opens no handshake of the result
stay_passed : (p c : Plan) (k : ℕ) (xs : List Element) → AllStay c xs → (past : List Pass) → is_open (passed p past xs) (ResultEnd k) ≡ is_open past (ResultEnd k)
stay_passed p c k [] all past = refl
stay_passed p c k (Fire i t ∷ xs) all past = stay_passed p c k xs all.1 past
stay_passed p c k (Out (PartEnd i h) v ∷ xs) all past = absurd all.0
stay_passed p c k (Out (ResultEnd h) v ∷ xs) all past = absurd all.0
stay_passed p c k (Out (ImportEnd i h) v ∷ xs) all past = stay_passed p c k xs all.1 (pass (ImportEnd i h) (way_out (contact_at p (ImportEnd i h))) ∷ past)
stay_passed p c k (In (PartEnd i h) v ∷ xs) all past = absurd all.0
stay_passed p c k (In (ResultEnd h) v ∷ xs) all past = absurd all.0
stay_passed p c k (In (ImportEnd i h) v ∷ xs) all past = stay_passed p c k xs all.1 (pass (ImportEnd i h) (way_in (contact_at p (ImportEnd i h))) ∷ past)

asked_alone : (h k : ℕ) (b : Bool) → nat_eq h k ≡ b → (if b then true else false) ≡ true → k ≡ h
asked_alone h k true t up = grind (arith, t)
asked_alone h k false t up = absurd (cc up)

-- so what it asks is open alone
open_alone : (p c : Plan) (h : ℕ) → way_in (contact_at p (ResultEnd h)) ≡ Request → (xs : List Element) → IsOpenSession h c xs → OnlyAt h (passed p [] xs)
open_alone p c h asks [] begun = absurd begun
open_alone p c h asks (Fire i t ∷ xs) begun = absurd begun
open_alone p c h asks (Out e v ∷ xs) begun = absurd begun
open_alone p c h asks (In e v ∷ xs) (at, all) = λ k up.
    asked_alone h k (nat_eq h k) refl
    (sym (stay_passed p c k xs all (pass (ResultEnd h) Request ∷ []))
    ∙ (ap (λ (x : Pass). is_open (passed p (x ∷ []) xs) (ResultEnd k)) (λ l. pass (sym at l) (sym asks l))
    ∙ (ap (λ (d : End). is_open (passed p (pass e (way_in (contact_at p d)) ∷ []) xs) (ResultEnd k)) (sym at) ∙ up)))

module _ (w : ℕ) (p : Plan) (right : IsRight p) (outcome : p.outcome ≡ Var w) (regular : IsRegular p) (rests : Rests p) where
  abbrev c : Plan
  c = unread p

  low : 1 < 2
  low = omega arith

  pub restful : IsRestfulAt 1 c
  restful s t xs v tidy idle begun runs turns = rests s t list idle run turns (all_shut p list s t run turned none)
    where
      list : List Element
      list = xs ++ Out (ResultEnd 1) v ∷ []

      run : Runs p list s t
      run = unread_runs p w right outcome regular s t list idle (ended_is_one 1 c xs v begun) runs turns

      turned : Turned p (passed p [] list)
      turned = last_turned p regular s t xs (ResultEnd 1) v idle run turns

      shut : (k : ℕ) → is_open (passed p [] list) (ResultEnd k) ≡ false
      shut k =
          ap (λ (past : List Pass). is_open past (ResultEnd k)) (passed_then p [] xs (Out (ResultEnd 1) v))
          ∙ (ap (λ (way : Direction). is_open (pass (ResultEnd 1) way ∷ passed p [] xs) (ResultEnd k)) (asked_out p 1 _ _ (asked_by p 1 w low outcome))
          ∙ answered_shut 1 (passed p [] xs) (open_alone p c 1 (asked_in p 1 _ _ (asked_by p 1 w low outcome)) xs begun) k)

      none : some_open (count p.outcome) (λ h. is_open (passed p [] list) (ResultEnd h)) ≡ true → ⊥
      none some =
          let (k, small, up) = some_there (count p.outcome) (λ h. is_open (passed p [] list) (ResultEnd h)) some in
          let clash : true ≡ false = sym up ∙ shut k in cc clash

pub variable_is_steady : VariableIsSteady
variable_is_steady w p right outcome regular rests = (unread_regular p w right outcome regular, restful w p right outcome regular rests)
