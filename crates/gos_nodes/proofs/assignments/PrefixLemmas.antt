-- How a lone write begins: run, it asks the Lit, and writes the number; then the plan of the variable has been asked, and all else
-- rests.
use Rattle.std.specs.Prelude.{◌≢◌, ◌&&◌, None, nat_eq, nat_lt, slice_get, Contains, length}
use Rattle.std.proofs.Common.{◌≡◌, ℕ, Bool, true, false, [], ◌∷◌, Option, Some, refl, sym, ◌∙◌, ap, subst, arith, if◌then◌else◌, pow_pos}
use Rattle.std.proofs.lemmas.Bool.{ne_eqb}
use Rattle.gos_types.specs.Events.{Direction, Request, Answer}
use Rattle.gos_model.proofs.NumberLemmas.{nat_eq_itself}
use Rattle.gos_plan.specs.Kinds.{Part, Contact, Assign, Lit, asks, contacts_of}
use Rattle.gos_plan.specs.Firing.{Phase, Rest, Value, Writing, State, Slot, Req, Ans, Row, row, at, put, firing}
use Rattle.gos_plan.specs.Plans.{End, PartEnd, ResultEnd, Plan, contact_at, same_end, turned_if}
use Rattle.gos_plan.specs.Tokens.{Tokens, Fire, In, places_of, same_way, held_at, with_held, with_token, with_state, token_at, firing_of, Passes, Does, IsIdle}
use Rattle.gos_plan.proofs.JointLemmas.{IsIn, stands_there, contained, asking_stands, serving_stands}
use Rattle.gos_plan.proofs.DecidedLemmas.{one_state}
use Rattle.gos_plan.proofs.TurnLemmas.{token_state}
use Rattle.gos_joining.specs.webs.Webs.{joint}
use Rattle.gos_joining.specs.webs.Cutting as cutting
use Rattle.gos_joining.specs.webs.Cutting.{Cut, lies_at}
use Rattle.gos_joining.proofs.webs.CutLemmas.{lies_there, number_at}
use Rattle.gos_sharing.proofs.buffers.BranchLemmas.{place_stands}
use Rattle.gos_nodes.specs.windows.Nodes.{Stage}
use Rattle.gos_nodes.specs.windows.Windows.{seen, StirsOnly}
use Rattle.gos_nodes.proofs.windows.InlayLemmas.{inlay}
use Rattle.gos_nodes.specs.windows.OneSession.{IsTidy}
use Rattle.gos_nodes.specs.assignments.Writes.{waits_at}
use Rattle.gos_nodes.proofs.windows.RunnerLemmas as runners
use Rattle.gos_nodes.specs.assignments.Windows.{assign_runner}
use Rattle.gos_nodes.proofs.assignments.AssignLemmas.{has_stages}
use Rattle.gos_nodes.specs.assignments.Variables.{lone_stage, IsLoneWrite}
use Rattle.gos_nodes.proofs.windows.StageLemmas.{Emptied, cut, InStage, asked}

-- a token put at one end of a joint and taken at the other leaves nothing
taken_again : (r : Plan) (a b x : End) (way : Direction) (v : ℕ) (s : Tokens) → places_of r a ≡ Some x → places_of r b ≡ Some x
    → ((w : Direction) (y : End) → s.in_place w y ≡ None) → (w : Direction) (y : End) → (with_token r b way None (with_token r a way (Some v) s)).in_place w y ≡ None
taken_again r a b x way v s at_a at_b empty w y =
    subst (λ (o : Option End). (with_held way o None (with_token r a way (Some v) s)).in_place w y ≡ None) (sym at_b)
    (subst (λ (o : Option End). (with_held way (Some x) None (with_held way o (Some v) s)).in_place w y ≡ None) (sym at_a) (by_test (same_way w way && same_end y x)))
  where
    by_test : (t : Bool) → (if t then None else (if t then Some v else s.in_place w y)) ≡ None
    by_test true = refl
    by_test false = empty w y

-- a token put at one end of a joint lies at the other
pub lies_across : (r : Plan) (a b x : End) (way : Direction) (v : ℕ) (s : Tokens) → places_of r a ≡ Some x → places_of r b ≡ Some x
    → token_at r (with_token r a way (Some v) s) b way ≡ Some v
lies_across r a b x way v s at_a at_b = ap (held_at (with_token r a way (Some v) s) way) (at_b ∙ sym at_a) ∙ lies_there r a x way v s at_a

state_own : (i : ℕ) (q : State) (s : Tokens) → (with_state i q s).state i ≡ q
state_own i q s = ap (λ (t : Bool). if t then q else s.state i) (nat_eq_itself i)

pub state_apart : (i j : ℕ) (q : State) (s : Tokens) → j ≢ i → (with_state i q s).state j ≡ s.state j
state_apart i j q s apart = ap (λ (t : Bool). if t then q else s.state j) (ne_eqb j i apart)

pub apart_if : (f : Cut) (i j : ℕ) → f.number i ≡ None → (n : ℕ) → f.number j ≡ Some n → j ≢ i
apart_if f i j none n some same = let clash : Some n ≡ None = sym some ∙ (ap f.number same ∙ none) in absurd (cc clash)

-- the state of a part outside, or that of a part of the plan
abbrev taken_over : Tokens → Option ℕ → State
taken_over s None = at Rest 0
taken_over s (Some j) = s.state j

module _
    (q : Plan) (d l w k : ℕ) (f : Cut) (p : Plan) (lone : IsLoneWrite q d l w k f p) (before u : Tokens) (tidy : IsTidy p before) (idle : IsIdle p before)
    (does : Does p (In (ResultEnd 1) k) before u) where
  abbrev pub g : Stage
  g = lone_stage f p

  pub has : Contains (g ∷ []) g
  has = (0, omega arith, refl)

  abbrev asking : runners.HasStages q d (assign_runner w) (g ∷ [])
  asking = has_stages q d w (g ∷ []) lone.base

  -- the places of the two joints
  run_in : IsIn (joint (ResultEnd 0) (PartEnd d 2)) q.joints
  run_in = contained q.joints (joint (ResultEnd 0) (PartEnd d 2)) lone.run

  asks_in : IsIn (joint (PartEnd d 0) (PartEnd l 0)) q.joints
  asks_in = contained q.joints (joint (PartEnd d 0) (PartEnd l 0)) lone.asks

  result_place : places_of q (ResultEnd 0) ≡ Some (ResultEnd 0)
  result_place = stands_there q (joint (ResultEnd 0) (PartEnd d 2)) (ResultEnd 0) lone.base.right run_in (asking_stands (joint (ResultEnd 0) (PartEnd d 2)))

  run_place : places_of q (PartEnd d 2) ≡ Some (ResultEnd 0)
  run_place = stands_there q (joint (ResultEnd 0) (PartEnd d 2)) (PartEnd d 2) lone.base.right run_in (serving_stands (joint (ResultEnd 0) (PartEnd d 2)))

  asks_place : places_of q (PartEnd d 0) ≡ Some (PartEnd d 0)
  asks_place = stands_there q (joint (PartEnd d 0) (PartEnd l 0)) (PartEnd d 0) lone.base.right asks_in (asking_stands (joint (PartEnd d 0) (PartEnd l 0)))

  lit_place : places_of q (PartEnd l 0) ≡ Some (PartEnd d 0)
  lit_place = stands_there q (joint (PartEnd d 0) (PartEnd l 0)) (PartEnd l 0) lone.base.right asks_in (serving_stands (joint (PartEnd d 0) (PartEnd l 0)))

  two_parts : l ≢ d
  two_parts same =
      let clash : Some (Lit w k) ≡ Some (Assign w) = sym lone.lit ∙ (ap (slice_get q.parts) same ∙ lone.base.own) in absurd (cc clash)

  -- the states, one after another
  abbrev pub s0 : Tokens
  s0 = record { in_place = λ way e. None; state = λ i. taken_over before (f.number i) }

  abbrev pub s1 : Tokens
  s1 = with_token q (ResultEnd 0) Request (Some 0) s0

  abbrev a1 : Tokens
  a1 = with_state d (at Value (s1.state d).number) (with_token q (PartEnd d 2) Request None s1)

  abbrev pub s2 : Tokens
  s2 = with_token q (PartEnd d 0) Request (Some 0) a1

  abbrev a2 : Tokens
  a2 = with_state l (at Rest (s2.state l).number) (with_token q (PartEnd l 0) Request None s2)

  abbrev pub s3 : Tokens
  s3 = with_token q (PartEnd l 0) Answer (Some k) a2

  abbrev a3 : Tokens
  a3 = with_state d (at Writing (s3.state d).number) (with_token q (PartEnd d 0) Answer None s3)

  abbrev pub s4 : Tokens
  s4 = with_token q (PartEnd d 1) Request (Some k) a3

  empty1 : (way : Direction) (e : End) → a1.in_place way e ≡ None
  empty1 way e = taken_again q (ResultEnd 0) (PartEnd d 2) (ResultEnd 0) Request 0 s0 result_place run_place (λ x y. refl) way e

  empty2 : (way : Direction) (e : End) → a2.in_place way e ≡ None
  empty2 way e = taken_again q (PartEnd d 0) (PartEnd l 0) (PartEnd d 0) Request 0 a1 asks_place lit_place empty1 way e

  empty3 : (way : Direction) (e : End) → a3.in_place way e ≡ None
  empty3 way e = taken_again q (PartEnd l 0) (PartEnd d 0) (PartEnd d 0) Answer k a2 lit_place asks_place empty2 way e

  -- their parts' states
  first_state : (i : ℕ) → s1.state i ≡ s0.state i
  first_state i = token_state q (ResultEnd 0) Request (Some 0) s0 i

  second_state : (i : ℕ) → i ≢ d → s2.state i ≡ s0.state i
  second_state i apart =
      token_state q (PartEnd d 0) Request (Some 0) a1 i
      ∙ (state_apart d i (at Value (s1.state d).number) (with_token q (PartEnd d 2) Request None s1) apart ∙ (token_state q (PartEnd d 2) Request None s1 i ∙ first_state i))

  second_own : s2.state d ≡ at Value (s1.state d).number
  second_own = token_state q (PartEnd d 0) Request (Some 0) a1 d ∙ state_own d (at Value (s1.state d).number) (with_token q (PartEnd d 2) Request None s1)

  third_state : (i : ℕ) → i ≢ l → s3.state i ≡ s2.state i
  third_state i apart =
      token_state q (PartEnd l 0) Answer (Some k) a2 i
      ∙ (state_apart l i (at Rest (s2.state l).number) (with_token q (PartEnd l 0) Request None s2) apart ∙ token_state q (PartEnd l 0) Request None s2 i)

  third_lit : s3.state l ≡ at Rest (s2.state l).number
  third_lit = token_state q (PartEnd l 0) Answer (Some k) a2 l ∙ state_own l (at Rest (s2.state l).number) (with_token q (PartEnd l 0) Request None s2)

  last_state : (i : ℕ) → i ≢ d → a3.state i ≡ s3.state i
  last_state i apart =
      state_apart d i (at Writing (s3.state d).number) (with_token q (PartEnd d 0) Answer None s3) apart ∙ token_state q (PartEnd d 0) Answer None s3 i

  outside_own : s0.state d ≡ at Rest 0
  outside_own = ap (taken_over before) (lone.base.stages g has).outside

  outside_lit : s0.state l ≡ at Rest 0
  outside_lit = ap (taken_over before) lone.beside

  -- a part's firing by its table
  fires_by : (i : ℕ) (kind : Part) (s : Tokens) (slot : Slot) (to : Row) (phase : Phase) → slice_get q.parts i ≡ Some kind → (s.state i).phase ≡ phase
      → firing kind (at phase (s.state i).number) slot ≡ Some to → firing_of (slice_get q.parts i) (s.state i) slot ≡ Some to
  fires_by i kind s slot to phase part is by =
      ap (λ (o : Option Part). firing_of o (s.state i) slot) part ∙ (ap (λ (x : Phase). firing kind (at x (s.state i).number) slot) is ∙ by)

  done_so : contact_at q (ResultEnd 0) ≡ Some (asks 0 0)
  done_so = ap (λ t. turned_if (slice_get (contacts_of t) 0)) lone.outcome

  pub does1 : Does q (In (ResultEnd 0) 0) s0 s1
  does1 = (tt, subst (λ (o : Option Contact). Passes q (In (ResultEnd 0) 0) o s0 s1) (sym done_so) (pow_pos 0, refl))

  pub does2 : Does q (Fire d (Req 2)) s1 s2
  does2 = (
    0,
    row (Req 2) (at Value (s1.state d).number) (λ v. put (Req 0) 0),
    lies_across q (ResultEnd 0) (PartEnd d 2) (ResultEnd 0) Request 0 s0 result_place run_place,
    fires_by d (Assign w) s1 (Req 2) (row (Req 2) (at Value (s1.state d).number) (λ v. put (Req 0) 0)) Rest lone.base.own
        (ap (λ (x : State). x.phase) (first_state d ∙ outside_own)) refl,
    refl,
  )

  pub does3 : Does q (Fire l (Req 0)) s2 s3
  does3 = (
    0,
    row (Req 0) (at Rest (s2.state l).number) (λ v. put (Ans 0) k),
    lies_across q (PartEnd d 0) (PartEnd l 0) (PartEnd d 0) Request 0 a1 asks_place lit_place,
    fires_by l (Lit w k) s2 (Req 0) (row (Req 0) (at Rest (s2.state l).number) (λ v. put (Ans 0) k)) Rest lone.lit
        (ap (λ (x : State). x.phase) (second_state l two_parts ∙ outside_lit)) refl,
    refl,
  )

  pub fourth_lies : token_at q s3 (PartEnd d 0) Answer ≡ Some k
  fourth_lies = lies_across q (PartEnd l 0) (PartEnd d 0) (PartEnd d 0) Answer k a2 lit_place asks_place

  own_apart : d ≢ l
  own_apart same = two_parts (sym same)

  pub fourth_fires : firing_of (slice_get q.parts d) (s3.state d) (Ans 0) ≡ Some (row (Ans 0) (at Writing (s3.state d).number) (put (Req 1)))
  fourth_fires =
      fires_by d (Assign w) s3 (Ans 0) (row (Ans 0) (at Writing (s3.state d).number) (put (Req 1))) Value lone.base.own
      (ap (λ (x : State). x.phase) (third_state d own_apart ∙ second_own)) refl

  pub does4 : Does q (Fire d (Ans 0)) s3 s4
  does4 = (k, row (Ans 0) (at Writing (s3.state d).number) (put (Req 1)), fourth_lies, fourth_fires, refl)

  -- before the write all rests but the Assign, and the plan is as it was
  others : (i : ℕ) → i ≢ d → f.number i ≡ None → (a3.state i).phase ≡ Rest
  others i apart out = ap (λ (x : State). x.phase) (last_state i apart) ∙ by_test (nat_eq i l) refl
    where
      by_test : (t : Bool) → nat_eq i l ≡ t → (s3.state i).phase ≡ Rest
      by_test true t =
          let same : i ≡ l = grind (arith, t) in ap (λ (n : ℕ). (s3.state n).phase) same ∙ ap (λ (x : State). x.phase) third_lit
      by_test false t =
          let other : i ≢ l = λ same. (let clash : nat_eq i l ≡ true = grind (arith, same) in absurd (cc (sym t ∙ clash))) in
          ap (λ (x : State). x.phase) (third_state i other ∙ (second_state i apart ∙ ap (taken_over before) out))

  within : (i j : ℕ) → f.number i ≡ Some j → a3.state i ≡ before.state j
  within i j number =
      let apart_own = apart_if f d i (lone.base.stages g has).outside j number in
      let apart_lit = apart_if f l i lone.beside j number in
      last_state i apart_own ∙ (third_state i apart_lit ∙ (second_state i apart_own ∙ ap (taken_over before) number))

  at_rest : (i : ℕ) → i ≢ d → (a3.state i).phase ≡ Rest
  at_rest i apart = by_number (f.number i) refl
    where
      by_number : (o : Option ℕ) → f.number i ≡ o → (a3.state i).phase ≡ Rest
      by_number None out = others i apart out
      by_number (Some j) number = ap (λ (x : State). x.phase) (within i j number) ∙ idle.1 j

  emptied : Emptied d a3
  emptied = record { places = empty3; states = at_rest }

  -- what the plan sees then
  part_state : (i : ℕ) (t : Bool) → nat_lt i (length p.parts) ≡ t → (if t then a3.state (f.part i) else at Rest 0) ≡ before.state i
  part_state i true t = within (f.part i) i (number_at f (inlay f q p) p (cut q d (assign_runner w) (g ∷ []) asking g has) (Lit w k) i t)
  part_state i false t = sym (tidy i t)

  place_state : (way : Direction) (e : End) (t : Bool) → (if t then a3.in_place way (lies_at f e) else None) ≡ before.in_place way e
  place_state way e true = empty3 way (lies_at f e) ∙ sym (idle.0 way e)
  place_state way e false = sym (idle.0 way e)

  seen_before : seen g a3 ≡ before
  seen_before = λ x. record {
    in_place = λ way e. place_state way e (cutting.asks_in p.joints e) x;
    state = λ i. part_state i (nat_lt i (length p.parts)) refl x;
  }

  begun : Does p (In (ResultEnd 1) k) (seen g a3) (seen g s4) × InStage q d (assign_runner w) (g ∷ []) asking g has s4
  begun = asked q d (assign_runner w) (g ∷ []) asking g has k lone.fits a3 emptied (λ x named. lone.written (place_stands q (PartEnd d 1) x named))

  pub seen_after : seen g s4 ≡ u
  seen_after =
      one_state p (In (ResultEnd 1) k) before (seen g s4) u (subst (λ (x : Tokens). Does p (In (ResultEnd 1) k) x (seen g s4)) seen_before begun.0) does

  pub asked_so : Does p (In (ResultEnd 1) k) before (seen g s4)
  asked_so = subst (λ (x : Tokens). Does p (In (ResultEnd 1) k) x (seen g s4)) seen_before begun.0

  pub stirs : StirsOnly d (assign_runner w) g s4
  stirs =
      record {
        session =
            ap (λ (x : State). waits_at x.phase) (token_state q (PartEnd d 1) Request (Some k) a3 d ∙ state_own d (at Writing (s3.state d).number) (with_token q (PartEnd d 0) Answer None s3));
        states = λ i apart out. ap (λ (x : State). x.phase) (token_state q (PartEnd d 1) Request (Some k) a3 i) ∙ others i apart out;
        places = begun.1;
      }

  pub idle_first : IsIdle q s0
  idle_first = (λ way e. refl, λ i. by_number (f.number i))
    where
      by_number : (o : Option ℕ) → (taken_over before o).phase ≡ Rest
      by_number None = refl
      by_number (Some j) = idle.1 j
