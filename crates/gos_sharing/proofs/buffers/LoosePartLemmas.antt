-- A part that stands in no joint does nothing: the plan with it has the same lists, in the same states.
use Rattle.std.specs.Prelude.{None, slice_get}
use Rattle.std.proofs.Common.{◌≡◌, ℕ, zero, suc, List, [], ◌∷◌, ◌++◌, Option, Some, refl, sym, ◌∙◌, ap}
use Rattle.gos_model.specs.Terms.{Term}
use Rattle.gos_model.specs.Moves.{Program, Config, Idle, Act}
use Rattle.gos_plan.specs.Kinds.{Contact, Part, asks, serves}
use Rattle.gos_plan.specs.Plans.{End, PartEnd, ImportEnd, ResultEnd, Joint, Plan, contact_at, contacts_of_part, AreRight, IsRight}
use Rattle.gos_plan.specs.Firing.{Slot, Req, Ans, Token}
use Rattle.gos_plan.specs.Tokens.{Tokens, Element, Fire, Out, In, places_of, held_at, token_at, end_of, way_of, shake_of, firing_of, with_token, with_state, with_puts, Does, Runs, IsQuiet}
use Rattle.gos_plan.specs.Orderly.{Open, none_open, after_taken, after_put, after_puts, AllComeWell, ComesInOrder, AllWelcome, OrderlyFrom, IsOrderly}
use Rattle.gos_plan.proofs.JointLemmas.{joined}
use Rattle.gos_realises.specs.realises.Regular.{Pass, pass, way_in, way_out, InputsKeepTurns, OutputsKeepTurns, IsRegular}
use Rattle.gos_realises.specs.realises.Matched.{shows, GoesOn, Agrees, IsMatched, program_of, RealisesInTurn}
use Rattle.gos_sharing.specs.buffers.Buffering.{with_part, LoosePartIsFree}

in_front : (xs ys : List Part) (i : ℕ) (k : Part) → slice_get xs i ≡ Some k → slice_get (xs ++ ys) i ≡ Some k
in_front [] ys i k h = absurd (cc h)
in_front (x ∷ xs) ys zero k h = h
in_front (x ∷ xs) ys (suc i) k h = in_front xs ys i k h

module _ (k : Part) (p : Plan) (right : IsRight p) where
  -- where a token lies there is a part of the plan's own
  part_there : (s : Tokens) (i : ℕ) (t : Slot) (v : ℕ) → token_at p s (end_of i t) (way_of t) ≡ Some v → slice_get (with_part k p).parts i ≡ slice_get p.parts i
  part_there s i t v lies = by_place (places_of p (end_of i t)) refl
    where
      with_contact : (f : Option Part) → slice_get p.parts i ≡ f → (c : Contact) → slice_get (contacts_of_part f) (shake_of t) ≡ Some c → slice_get (with_part k p).parts i ≡ slice_get p.parts i
      with_contact None h c there = absurd (cc there)
      with_contact (Some x) h c there = in_front p.parts (k ∷ []) i x h ∙ sym h

      by_place : (f : Option End) → places_of p (end_of i t) ≡ f → slice_get (with_part k p).parts i ≡ slice_get p.parts i
      by_place None h = let no : None ≡ Some v = sym (ap (held_at s (way_of t)) h) ∙ lies in absurd (cc no)
      by_place (Some a) h =
          let at = joined p (end_of i t) a right h in
          with_contact (slice_get p.parts i) refl at.here at.is_here

  same_firing : (s : Tokens) (i : ℕ) (t : Slot) (v : ℕ) → token_at p s (end_of i t) (way_of t) ≡ Some v
      → firing_of (slice_get (with_part k p).parts i) (s.state i) t ≡ firing_of (slice_get p.parts i) (s.state i) t
  same_firing s i t v lies = ap (λ x. firing_of x (s.state i) t) (part_there s i t v lies)

  same_puts : (i : ℕ) (ts : List Token) (s : Tokens) → with_puts (with_part k p) i ts s ≡ with_puts p i ts s
  same_puts i [] s = refl
  same_puts i (t ∷ ts) s = same_puts i ts (with_token p (end_of i t.slot) (way_of t.slot) (Some t.value) s)

  same_opens : (i : ℕ) (ts : List Token) (o : Open) → after_puts (with_part k p) i ts o ≡ after_puts p i ts o
  same_opens i [] o = refl
  same_opens i (t ∷ ts) o = same_opens i ts (after_put p (end_of i t.slot) (way_of t.slot) o)

  well_too : (i : ℕ) (ts : List Token) (o : Open) (s : Tokens) → AllComeWell p i ts o s → AllComeWell (with_part k p) i ts o s
  well_too i [] o s well = tt
  well_too i (t ∷ ts) o s well =
      (well.0, well_too i ts (after_put p (end_of i t.slot) (way_of t.slot) o) (with_token p (end_of i t.slot) (way_of t.slot) (Some t.value) s) well.1)

  does_back : (x : Element) (s w : Tokens) → Does (with_part k p) x s w → Does p x s w
  does_back (Fire i t) s w (v, r, lies, by, leads) =
      (v, r, lies, sym (same_firing s i t v lies) ∙ by, leads ∙ same_puts i (r.puts v) (with_state i (r.next v) (with_token p (end_of i r.takes) (way_of r.takes) None s)))
  does_back (Out (PartEnd i h) v) s w does = absurd does.0
  does_back (Out (ImportEnd i h) v) s w does = does
  does_back (Out (ResultEnd h) v) s w does = does
  does_back (In (PartEnd i h) v) s w does = absurd does.0
  does_back (In (ImportEnd i h) v) s w does = does
  does_back (In (ResultEnd h) v) s w does = does

  does_on : (x : Element) (s w : Tokens) → Does p x s w → Does (with_part k p) x s w
  does_on (Fire i t) s w (v, r, lies, by, leads) =
      (v, r, lies, same_firing s i t v lies ∙ by, leads ∙ sym (same_puts i (r.puts v) (with_state i (r.next v) (with_token p (end_of i r.takes) (way_of r.takes) None s))))
  does_on (Out (PartEnd i h) v) s w does = absurd does.0
  does_on (Out (ImportEnd i h) v) s w does = does
  does_on (Out (ResultEnd h) v) s w does = does
  does_on (In (PartEnd i h) v) s w does = absurd does.0
  does_on (In (ImportEnd i h) v) s w does = does
  does_on (In (ResultEnd h) v) s w does = does

  runs_back : (xs : List Element) (s w : Tokens) → Runs (with_part k p) xs s w → Runs p xs s w
  runs_back [] s w runs = runs
  runs_back (x ∷ xs) s w (v, does, runs) = (v, does_back x s v does, runs_back xs v w runs)

  order_on : (x : Element) (s w : Tokens) (o m : Open) → Does p x s w → ComesInOrder p x s o m → ComesInOrder (with_part k p) x s o m
  order_on (Fire i t) s w o m does comes = λ v r lies by.
      let now = comes v r lies (sym (same_firing s i t v lies) ∙ by) in (
        well_too i (r.puts v) (after_taken p (end_of i t) (way_of t) o) (with_state i (r.next v) (with_token p (end_of i r.takes) (way_of r.takes) None s)) now.0,
        now.1 ∙ sym (same_opens i (r.puts v) (after_taken p (end_of i t) (way_of t) o)),
      )
  order_on (Out (PartEnd i h) v) s w o m does comes = absurd does.0
  order_on (Out (ImportEnd i h) v) s w o m does comes = comes
  order_on (Out (ResultEnd h) v) s w o m does comes = comes
  order_on (In (PartEnd i h) v) s w o m does comes = absurd does.0
  order_on (In (ImportEnd i h) v) s w o m does comes = comes
  order_on (In (ResultEnd h) v) s w o m does comes = comes

  welcome_on : (s : Tokens) → AllWelcome p s → AllWelcome (with_part k p) s
  welcome_on s welcome i t c v there way lies =
      let row = welcome i t c v (ap (λ x. slice_get (contacts_of_part x) (shake_of t)) (sym (part_there s i t v lies)) ∙ there) way lies in
      (row.0, same_firing s i t v lies ∙ row.1)

  orderly_on : (xs : List Element) (o u : Open) (s w : Tokens) → OrderlyFrom p xs o s u w → OrderlyFrom (with_part k p) xs o s u w
  orderly_on [] o u s w list = list
  orderly_on (x ∷ xs) o u s w (m, v, does, comes, welcome, list) =
      (m, v, does_on x s v does, order_on x s v o m does comes, welcome_on v welcome, orderly_on xs m u v w list)

  is_orderly_on : (xs : List Element) (s : Tokens) → IsOrderly p xs s → IsOrderly (with_part k p) xs s
  is_orderly_on xs s (u, w, list) = (u, w, orderly_on xs none_open u s w list)

  inputs_back : (xs : List Element) (past : List Pass) (s w : Tokens) → Runs p xs s w → InputsKeepTurns (with_part k p) past xs → InputsKeepTurns p past xs
  inputs_back [] past s w runs keeps = tt
  inputs_back (Fire i t ∷ xs) past s w (v, does, runs) keeps = inputs_back xs past v w runs keeps
  inputs_back (Out (PartEnd i h) n ∷ xs) past s w (v, does, runs) keeps = absurd does.0
  inputs_back (Out (ImportEnd i h) n ∷ xs) past s w (v, does, runs) keeps = inputs_back xs (pass (ImportEnd i h) (way_out (contact_at p (ImportEnd i h))) ∷ past) v w runs keeps
  inputs_back (Out (ResultEnd h) n ∷ xs) past s w (v, does, runs) keeps = inputs_back xs (pass (ResultEnd h) (way_out (contact_at p (ResultEnd h))) ∷ past) v w runs keeps
  inputs_back (In (PartEnd i h) n ∷ xs) past s w (v, does, runs) keeps = absurd does.0
  inputs_back (In (ImportEnd i h) n ∷ xs) past s w (v, does, runs) keeps =
      (keeps.0, inputs_back xs (pass (ImportEnd i h) (way_in (contact_at p (ImportEnd i h))) ∷ past) v w runs keeps.1)
  inputs_back (In (ResultEnd h) n ∷ xs) past s w (v, does, runs) keeps =
      (keeps.0, inputs_back xs (pass (ResultEnd h) (way_in (contact_at p (ResultEnd h))) ∷ past) v w runs keeps.1)

  outputs_on : (xs : List Element) (past : List Pass) (s w : Tokens) → Runs p xs s w → OutputsKeepTurns p past xs → OutputsKeepTurns (with_part k p) past xs
  outputs_on [] past s w runs keeps = tt
  outputs_on (Fire i t ∷ xs) past s w (v, does, runs) keeps = outputs_on xs past v w runs keeps
  outputs_on (Out (PartEnd i h) n ∷ xs) past s w (v, does, runs) keeps = absurd does.0
  outputs_on (Out (ImportEnd i h) n ∷ xs) past s w (v, does, runs) keeps =
      (keeps.0, outputs_on xs (pass (ImportEnd i h) (way_out (contact_at p (ImportEnd i h))) ∷ past) v w runs keeps.1)
  outputs_on (Out (ResultEnd h) n ∷ xs) past s w (v, does, runs) keeps =
      (keeps.0, outputs_on xs (pass (ResultEnd h) (way_out (contact_at p (ResultEnd h))) ∷ past) v w runs keeps.1)
  outputs_on (In (PartEnd i h) n ∷ xs) past s w (v, does, runs) keeps = absurd does.0
  outputs_on (In (ImportEnd i h) n ∷ xs) past s w (v, does, runs) keeps = outputs_on xs (pass (ImportEnd i h) (way_in (contact_at p (ImportEnd i h))) ∷ past) v w runs keeps
  outputs_on (In (ResultEnd h) n ∷ xs) past s w (v, does, runs) keeps = outputs_on xs (pass (ResultEnd h) (way_in (contact_at p (ResultEnd h))) ∷ past) v w runs keeps

  regular_on : IsRegular p → IsRegular (with_part k p)
  regular_on regular s w xs idle runs keeps =
      let was = runs_back xs s w runs in
      let (orderly, turns) = regular s w xs idle was (inputs_back xs [] s w was keeps) in
      (is_orderly_on xs s orderly, outputs_on xs [] s w was turns)

  -- what is shown, of what is possible
  same_shows : (x : Element) (s w : Tokens) → Does p x s w → shows (with_part k p) x ≡ shows p x
  same_shows (Fire i t) s w does = refl
  same_shows (Out (PartEnd i h) v) s w does = absurd does.0
  same_shows (Out (ImportEnd i h) v) s w does = refl
  same_shows (Out (ResultEnd h) v) s w does = refl
  same_shows (In (PartEnd i h) v) s w does = absurd does.0
  same_shows (In (ImportEnd i h) v) s w does = refl
  same_shows (In (ResultEnd h) v) s w does = refl

  quiet_back : (s : Tokens) → IsQuiet (with_part k p) s → IsQuiet p s
  quiet_back s quiet = (λ i t w does. quiet.0 i t w (does_on (Fire i t) s w does), λ e v w does. quiet.1 e v w (does_on (Out e v) s w does))

  goes_on : (x : Element) (s : Tokens) (acts : List Act) → GoesOn p s x acts → GoesOn (with_part k p) s x acts
  goes_on (Fire i (Req h)) s acts goes = tt
  goes_on (Fire i (Ans h)) s acts goes = λ v r lies by asking. goes v r lies (sym (same_firing s i (Ans h) v lies) ∙ by) asking
  goes_on (Out e v) s acts goes = tt
  goes_on (In e v) s acts goes = tt

  agrees_on : (g : Program) (s : Tokens) (c : Config) → Agrees p g s c → Agrees (with_part k p) g s c
  agrees_on g s c agrees = (λ quiet. agrees.0 (quiet_back s quiet), agrees.1)

  matched_on : (g : Program) (xs : List Element) (s : Tokens) (c : Config) → IsMatched p g xs s c → IsMatched (with_part k p) g xs s c
  matched_on g [] s c matched = agrees_on g s c matched
  matched_on g (x ∷ xs) s c matched = (
    agrees_on g s c matched.0,
    λ w does.
        let was = does_back x s w does in
        let (acts, d, moves, shown, goes, rest) = matched.1 w was in
        (acts, d, moves, shown ∙ sym (same_shows x s w was), goes_on x s acts goes, matched_on g xs w d rest),
  )

  realises_on : (m : Term) → RealisesInTurn p m → RealisesInTurn (with_part k p) m
  realises_on m realises s w xs idle runs keeps =
      let was = runs_back xs s w runs in
      let (matched, orderly) = realises s w xs idle was (inputs_back xs [] s w was keeps) in
      (matched_on (program_of p m) xs s Idle matched, is_orderly_on xs s orderly)

-- it is right with it
part_stays : (k : Part) (p : Plan) (e : End) (c : Contact) → contact_at p e ≡ Some c → contact_at (with_part k p) e ≡ Some c
part_stays k p (PartEnd i h) c there = of_part (slice_get p.parts i) refl
  where
    of_part : (f : Option Part) → slice_get p.parts i ≡ f → slice_get (contacts_of_part (slice_get (p.parts ++ (k ∷ [])) i)) h ≡ Some c
    of_part None e = let none : slice_get (contacts_of_part None) h ≡ Some c = sym (ap (λ x. slice_get (contacts_of_part x) h) e) ∙ there in absurd (cc none)
    of_part (Some x) e =
        ap (λ y. slice_get (contacts_of_part y) h) (in_front p.parts (k ∷ []) i x e) ∙ (sym (ap (λ y. slice_get (contacts_of_part y) h) e) ∙ there)
part_stays k p (ImportEnd i h) c there = there
part_stays k p (ResultEnd h) c there = there

all_right : (k : Part) (p : Plan) (before js : List Joint) → AreRight p before js → AreRight (with_part k p) before js
all_right k p before [] are = tt
all_right k p before (x ∷ xs) are =
    let fit = are.0.0 in
    (((fit.0, fit.1, part_stays k p x.asking (asks fit.0 fit.1) fit.2, part_stays k p x.serving (serves fit.0 fit.1) fit.3), are.0.1, are.0.2), all_right k p (x ∷ before) xs are.1)

pub with_part_right : (k : Part) (p : Plan) → IsRight p → IsRight (with_part k p)
with_part_right k p right = all_right k p [] p.joints right

pub loose_part_is_free : LoosePartIsFree
loose_part_is_free k p right = (regular_on k p right, realises_on k p right)
