-- A plan that realises a variable has joints at both handshakes of its result.
--
-- Joined to the parts that read or write it, a plan without the joint would lose what these ask, and be quiet.
use Rattle.std.specs.Prelude.{◌≡◌, ◌⊎◌, ◌||◌, ℕ, zero, suc, Bool, true, false, List, [], ◌∷◌, Option, Some, None, length, slice_get, nat_eq, if◌then◌else◌}
use Rattle.std.proofs.Common.{refl, sym, ◌∙◌, ap, arith, inl, inr}
use Rattle.std.proofs.lemmas.Bool.Decides.{nat_tests}
use Rattle.std.proofs.lemmas.Nat.{pow_pos}
use Rattle.std.proofs.lemmas.Option.{slice_get_past, none-some}
use Rattle.std.proofs.lemmas.Bool.{or_cases}
use Rattle.gos_types.specs.Types.{Type', Com, Exp, Var}
use Rattle.gos_types.specs.Events.{Request, Answer}
use Rattle.gos_model.specs.Terms.{Term, Lit, Assign, Deref}
use Rattle.gos_plan.specs.Kinds as kinds
use Rattle.gos_plan.specs.Kinds.{Part, asks, serves, contacts_of}
use Rattle.gos_plan.specs.Firing.{Rest, Value, Waiting, Writing, Req, Ans, Row, row, at, put}
use Rattle.gos_plan.specs.Plans.{End, PartEnd, ResultEnd, Plan, contact_at, contacts_of_part, turned_if, same_end, stands_in, IsRight}
use Rattle.gos_plan.specs.Tokens.{Tokens, Fire, places_of, with_token, fired}
use Rattle.gos_plan.proofs.JointLemmas.{IsIn, same_is, fits, contained}
use Rattle.gos_plan.proofs.TurnLemmas.{token_state}
use Rattle.gos_realises.specs.realises.Matched.{RealisesInTurn}
use Rattle.gos_realises.specs.realises.Realises.{Suits, Realises}
use Rattle.gos_joining.specs.webs.Webs.{joint}
use Rattle.gos_joining.specs.webs.Cutting.{StandsIn}
use Rattle.gos_joining.proofs.webs.MovedLemmas.{listed}
use Rattle.gos_sharing.proofs.sharing.SeenTokenLemmas.{place_asking, place_serving}
use Rattle.gos_realises.specs.joined.Joined.{HasJoining}
use Rattle.gos_realises.specs.realises.Wirings.{reading, writing}
use Rattle.gos_realises.proofs.joined.WholeLemmas.{variables_are_joined}
use Rattle.gos_sharing.proofs.buffers.DrivenLemmas.{DrivenJoint, IsDriven, past_end}
use Rattle.gos_sharing.proofs.buffers.ReadingLemmas.{ReadOwn, read_is_driven}
use Rattle.gos_sharing.proofs.buffers.WritingLemmas.{WriteOwn, write_is_driven}
use Rattle.gos_sharing.specs.ground_types.Joints.{VariableIsJoined}
use Rattle.gos_sharing.proofs.ground_types.TokenLemmas.{resting, Only, put_there, empty_quiet, request, comes, fires, puts_one, loses_one, state_after}
use Rattle.gos_sharing.proofs.ground_types.LostLemmas.{never_quiet}
use Rattle.gos_supplies.proofs.progress.RealiserLemmas.{Found, joint_or_none}

-- where the driving part's handshake is joined, so is the plan's
module _
    (v f : ℕ) (ds : List Part) (Own : ℕ → End → End → Type 0) (p r : Plan) (right : IsRight p) (driven : IsDriven v f ds Own p r)
    (apart : (a b : End) → Own (length p.parts) a b → (a ≡ PartEnd (length p.parts) f) ⊎ (b ≡ PartEnd (length p.parts) f) → ⊥) where
  nothing_there : contact_at p (PartEnd (length p.parts) f) ≡ None
  nothing_there =
      ap (λ (k : Option Part). slice_get (contacts_of_part k) f) (slice_get_past p.parts (length p.parts) (omega arith))

  own_result : (b : End) → stands_in (ResultEnd v) (joint (ResultEnd v) b) ≡ true
  own_result b =
      let same : nat_eq v v ≡ true = grind (arith, nat_tests) in ap (λ (x : Bool). x || same_end (ResultEnd v) b) same

  driven_found : Found r.joints (PartEnd (length p.parts) f) → StandsIn p (ResultEnd v)
  driven_found (j, has, stands) = by_kind ((driven.joints j.asking j.serving).0 has)
    where
      ends : (j.asking ≡ PartEnd (length p.parts) f) ⊎ (j.serving ≡ PartEnd (length p.parts) f)
      ends =
          elim (or_cases (same_end (PartEnd (length p.parts) f) j.asking) (same_end (PartEnd (length p.parts) f) j.serving) stands) [
            | inl h ↦ inl (sym (same_is (PartEnd (length p.parts) f) j.asking h))
            | inr h ↦ inr (sym (same_is (PartEnd (length p.parts) f) j.serving h))
          ]

      in_plan : IsIn (joint j.asking j.serving) p.joints → ⊥
      in_plan here =
          let (q, a, asked, served) = fits p [] p.joints (joint j.asking j.serving) right here in
          elim ends [
            | inl e ↦ none-some (asks q a) (sym nothing_there ∙ (ap (contact_at p) (sym e) ∙ asked))
            | inr e ↦ none-some (serves q a) (sym nothing_there ∙ (ap (contact_at p) (sym e) ∙ served))
          ]

      by_kind : DrivenJoint v f Own (length p.parts) p j.asking j.serving → StandsIn p (ResultEnd v)
      by_kind (inl (here, plain)) = absurd (in_plan here)
      by_kind (inr (inl (at_a, here))) =
          (joint (ResultEnd v) j.serving, listed p.joints (joint (ResultEnd v) j.serving) here, own_result j.serving)
      by_kind (inr (inr own)) = absurd (apart j.asking j.serving own ends)

-- a plan that is read, where its variable has no joint
module _
    (w : ℕ) (p r : Plan) (m : Term) (driven : IsDriven 0 0 (kinds.Deref w ∷ []) ReadOwn p r) (suits : Suits (Exp w) r (Deref m))
    (realises : RealisesInTurn r (Deref m)) (none : places_of r (PartEnd (length p.parts) 0) ≡ None) where
  abbrev reader : ℕ
  reader = length p.parts

  own_joint : IsIn (joint (ResultEnd 0) (PartEnd reader 1)) r.joints
  own_joint =
      contained r.joints (joint (ResultEnd 0) (PartEnd reader 1)) ((driven.joints (ResultEnd 0) (PartEnd reader 1)).1 (inr (inr (refl, refl))))

  deref : slice_get r.parts reader ≡ Some (kinds.Deref w)
  deref = ap (λ (ks : List Part). slice_get ks reader) driven.parts ∙ past_end p.parts (kinds.Deref w ∷ []) reader 0 (omega arith)

  read_contact : contact_at r (ResultEnd 0) ≡ Some (asks 0 w)
  read_contact = ap (λ (t : Type'). turned_if (slice_get (contacts_of t) 0)) suits.outcome

  abbrev asked : Tokens
  asked = with_token r (ResultEnd 0) Request (Some 0) resting

  asked_one : Only Request (ResultEnd 0) 0 asked
  asked_one =
      put_there r (ResultEnd 0) Request (ResultEnd 0) 0 resting (place_asking r (ResultEnd 0) (PartEnd reader 1) driven.right own_joint) (λ w e. refl)

  abbrev waits : Row
  waits = row (Req 1) (at Waiting 0) (λ v. put (Req 0) 0)

  read_lost : ⊥
  read_lost =
      let place = place_serving r (ResultEnd 0) (PartEnd reader 1) driven.right own_joint in
      let fire =
      fires r reader (kinds.Deref w) deref (Req 1) (at Rest 0) waits (ResultEnd 0) 0 asked (token_state r (ResultEnd 0) Request (Some 0) resting reader) refl place asked_one
      in
      let quiet =
      empty_quiet r (fired r reader waits 0 asked)
      (loses_one r reader (kinds.Deref w) deref (Req 1) (at Waiting 0) (λ v. put (Req 0) 0) (ResultEnd 0) 0 asked place asked_one none)
      in
      never_quiet r (Exp w) (Deref m) (request ∷ Fire reader (Req 1) ∷ []) (fired r reader waits 0 asked) tt suits realises
      (asked, comes r w resting read_contact, (fired r reader waits 0 asked, fire, refl))
      refl quiet

-- one that is written
module _
    (w : ℕ) (p r : Plan) (m : Term) (driven : IsDriven 1 1 (kinds.Assign w ∷ kinds.Lit w 0 ∷ []) WriteOwn p r)
    (suits : Suits Com r (Assign m (Lit 0 w))) (realises : RealisesInTurn r (Assign m (Lit 0 w)))
    (none : places_of r (PartEnd (length p.parts) 1) ≡ None) where
  abbrev writer : ℕ
  writer = length p.parts

  abbrev drivers : List Part
  drivers = kinds.Assign w ∷ kinds.Lit w 0 ∷ []

  run_joint : IsIn (joint (ResultEnd 0) (PartEnd writer 2)) r.joints
  run_joint =
      contained r.joints (joint (ResultEnd 0) (PartEnd writer 2)) ((driven.joints (ResultEnd 0) (PartEnd writer 2)).1 (inr (inr (inl (refl, refl)))))

  number_joint : IsIn (joint (PartEnd writer 0) (PartEnd (suc writer) 0)) r.joints
  number_joint =
      contained r.joints (joint (PartEnd writer 0) (PartEnd (suc writer) 0))
      ((driven.joints (PartEnd writer 0) (PartEnd (suc writer) 0)).1 (inr (inr (inr (refl, refl)))))

  assign : slice_get r.parts writer ≡ Some (kinds.Assign w)
  assign = ap (λ (ks : List Part). slice_get ks writer) driven.parts ∙ past_end p.parts drivers writer 0 (omega arith)

  literal : slice_get r.parts (suc writer) ≡ Some (kinds.Lit w 0)
  literal = ap (λ (ks : List Part). slice_get ks (suc writer)) driven.parts ∙ past_end p.parts drivers (suc writer) 1 (omega arith)

  write_contact : contact_at r (ResultEnd 0) ≡ Some (asks 0 0)
  write_contact = ap (λ (t : Type'). turned_if (slice_get (contacts_of t) 0)) suits.outcome

  itself : nat_eq writer writer ≡ true
  itself = grind (arith, nat_tests)

  not_next : nat_eq writer (suc writer) ≡ false
  not_next = grind (arith, nat_tests)

  next_not : nat_eq (suc writer) writer ≡ false
  next_not = grind (arith, nat_tests)

  -- run, the Assign asks for the number, the Lit answers, and the Assign writes it
  abbrev run : Tokens
  run = with_token r (ResultEnd 0) Request (Some 0) resting

  run_one : Only Request (ResultEnd 0) 0 run
  run_one =
      put_there r (ResultEnd 0) Request (ResultEnd 0) 0 resting (place_asking r (ResultEnd 0) (PartEnd writer 2) driven.right run_joint) (λ w e. refl)

  run_place : places_of r (PartEnd writer 2) ≡ Some (ResultEnd 0)
  run_place = place_serving r (ResultEnd 0) (PartEnd writer 2) driven.right run_joint

  asking_place : places_of r (PartEnd writer 0) ≡ Some (PartEnd writer 0)
  asking_place = place_asking r (PartEnd writer 0) (PartEnd (suc writer) 0) driven.right number_joint

  number_place : places_of r (PartEnd (suc writer) 0) ≡ Some (PartEnd writer 0)
  number_place = place_serving r (PartEnd writer 0) (PartEnd (suc writer) 0) driven.right number_joint

  abbrev begins : Row
  begins = row (Req 2) (at Value 0) (λ v. put (Req 0) 0)

  abbrev answers : Row
  answers = row (Req 0) (at Rest 0) (λ v. put (Ans 0) 0)

  abbrev writes : Row
  writes = row (Ans 0) (at Writing 0) (put (Req 1))

  abbrev begun : Tokens
  begun = fired r writer begins 0 run

  begun_one : Only Request (PartEnd writer 0) 0 begun
  begun_one =
      puts_one r writer (kinds.Assign w) assign (Req 2) (at Value 0) (λ v. put (Req 0) 0) (ResultEnd 0) (PartEnd writer 0) 0 run run_place run_one asking_place

  run_state : (j : ℕ) → run.state j ≡ at Rest 0
  run_state j = token_state r (ResultEnd 0) Request (Some 0) resting j

  begun_state : (j : ℕ) → begun.state j ≡ (if nat_eq j writer then at Value 0 else run.state j)
  begun_state j = state_after r writer (kinds.Assign w) assign (Req 2) (at Value 0) (λ v. put (Req 0) 0) 0 run j

  abbrev answered : Tokens
  answered = fired r (suc writer) answers 0 begun

  answered_one : Only Answer (PartEnd writer 0) 0 answered
  answered_one =
      puts_one r (suc writer) (kinds.Lit w 0) literal (Req 0) (at Rest 0) (λ v. put (Ans 0) 0) (PartEnd writer 0) (PartEnd writer 0) 0 begun number_place begun_one number_place

  lit_state : begun.state (suc writer) ≡ at Rest 0
  lit_state =
      begun_state (suc writer)
      ∙ (ap (λ (b : Bool). if b then at Value 0 else run.state (suc writer)) next_not ∙ run_state (suc writer))

  assign_state : answered.state writer ≡ at Value 0
  assign_state =
      state_after r (suc writer) (kinds.Lit w 0) literal (Req 0) (at Rest 0) (λ v. put (Ans 0) 0) 0 begun writer
      ∙ (ap (λ (b : Bool). if b then at Rest 0 else begun.state writer) not_next
      ∙ (begun_state writer ∙ ap (λ (b : Bool). if b then at Value 0 else run.state writer) itself))

  abbrev written : Tokens
  written = fired r writer writes 0 answered

  write_lost : ⊥
  write_lost =
      let first = fires r writer (kinds.Assign w) assign (Req 2) (at Rest 0) begins (ResultEnd 0) 0 run (run_state writer) refl run_place run_one in
      let second =
      fires r (suc writer) (kinds.Lit w 0) literal (Req 0) (at Rest 0) answers (PartEnd writer 0) 0 begun lit_state refl number_place begun_one
      in
      let third =
      fires r writer (kinds.Assign w) assign (Ans 0) (at Value 0) writes (PartEnd writer 0) 0 answered assign_state refl asking_place answered_one
      in
      let quiet =
      empty_quiet r written
      (loses_one r writer (kinds.Assign w) assign (Ans 0) (at Writing 0) (put (Req 1)) (PartEnd writer 0) 0 answered asking_place answered_one none)
      in
      never_quiet r Com (Assign m (Lit 0 w)) (request ∷ Fire writer (Req 2) ∷ Fire (suc writer) (Req 0) ∷ Fire writer (Ans 0) ∷ []) written tt suits realises
      (run, comes r 0 resting write_contact, (begun, first, (answered, second, (written, third, refl))))
      refl quiet

module _ (w : ℕ) (p : Plan) (m : Term) (real : Realises (Var w) p m) where
  read_apart : (a b : End) → ReadOwn (length p.parts) a b → (a ≡ PartEnd (length p.parts) 0) ⊎ (b ≡ PartEnd (length p.parts) 0) → ⊥
  read_apart a b (e, f) (inl h) = let no : ResultEnd 0 ≡ PartEnd (length p.parts) 0 = sym e ∙ h in cc no
  read_apart a b (e, f) (inr h) = let no : PartEnd (length p.parts) 1 ≡ PartEnd (length p.parts) 0 = sym f ∙ h in cc no

  write_apart : (a b : End) → WriteOwn (length p.parts) a b → (a ≡ PartEnd (length p.parts) 1) ⊎ (b ≡ PartEnd (length p.parts) 1) → ⊥
  write_apart a b (inl (e, f)) (inl h) = let no : ResultEnd 0 ≡ PartEnd (length p.parts) 1 = sym e ∙ h in cc no
  write_apart a b (inl (e, f)) (inr h) = let no : PartEnd (length p.parts) 2 ≡ PartEnd (length p.parts) 1 = sym f ∙ h in cc no
  write_apart a b (inr (e, f)) (inl h) = let no : PartEnd (length p.parts) 0 ≡ PartEnd (length p.parts) 1 = sym e ∙ h in cc no
  write_apart a b (inr (e, f)) (inr h) = let no : PartEnd (suc (length p.parts)) 0 ≡ PartEnd (length p.parts) 1 = sym f ∙ h in cc no

  is_read : HasJoining (reading w p) → StandsIn p (ResultEnd 0)
  is_read (r, is_r) = by_place (joint_or_none r.joints (PartEnd (length p.parts) 0))
    where
      driven : IsDriven 0 0 (kinds.Deref w ∷ []) ReadOwn p r
      driven = read_is_driven w p r real.suits.right real.suits.outcome is_r.joining

      by_place : Found r.joints (PartEnd (length p.parts) 0) ⊎ (places_of r (PartEnd (length p.parts) 0) ≡ None) → StandsIn p (ResultEnd 0)
      by_place (inl found) = driven_found 0 0 (kinds.Deref w ∷ []) ReadOwn p r real.suits.right driven read_apart found
      by_place (inr none) =
          let known = real.means.0 r is_r in absurd (read_lost w p r m driven known.0 known.1 none)

  is_written : HasJoining (writing w 0 p) → StandsIn p (ResultEnd 1)
  is_written (r, is_r) = by_place (joint_or_none r.joints (PartEnd (length p.parts) 1))
    where
      driven : IsDriven 1 1 (kinds.Assign w ∷ kinds.Lit w 0 ∷ []) WriteOwn p r
      driven = write_is_driven w 0 p r real.suits.right real.suits.outcome is_r.joining

      by_place : Found r.joints (PartEnd (length p.parts) 1) ⊎ (places_of r (PartEnd (length p.parts) 1) ≡ None) → StandsIn p (ResultEnd 1)
      by_place (inl found) =
          driven_found 1 1 (kinds.Assign w ∷ kinds.Lit w 0 ∷ []) WriteOwn p r real.suits.right driven write_apart found
      by_place (inr none) =
          let known = real.means.1 r 0 (pow_pos w) is_r in absurd (write_lost w p r m driven known.0 known.1 none)

pub variable_is_joined : VariableIsJoined
variable_is_joined w p m real zero small = is_read w p m real (variables_are_joined w 0 p real.suits.right real.suits.outcome).0
variable_is_joined w p m real (suc zero) small =
    is_written w p m real (variables_are_joined w 0 p real.suits.right real.suits.outcome).1
variable_is_joined w p m real (suc (suc j)) small = absurd (omega (arith, small))
