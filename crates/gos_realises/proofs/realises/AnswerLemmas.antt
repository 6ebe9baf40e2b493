-- A plan of one part with one handshake, which answers each request with one number: the ring of the request, its firing and the answer.
use Rattle.std.specs.Prelude.{◌≡◌, ℕ, zero, suc, ◌<◌, Bool, true, false, IsTrue, List, [], ◌∷◌, Option, Some, None, slice_get}
use Rattle.std.proofs.Common.{refl, sym, ◌∙◌, ap, subst, arith}
use Rattle.std.proofs.lemmas.Option.{none-some, same_Some}
use Rattle.gos_types.specs.Types.{Type'}
use Rattle.gos_types.specs.Events.{Request, Answer}
use Rattle.gos_model.specs.Terms.{Term}
use Rattle.gos_model.specs.Labels.{Label, given, is_output}
use Rattle.gos_model.specs.Moves.{Program, Config, Idle, Running, Act, Showing, Moves, labels, Stalled}
use Rattle.gos_plan.specs.Kinds.{Part, Contact, asks, contacts_of, part_contacts}
use Rattle.gos_plan.specs.Firing.{Rest, State, Slot, Req, Ans, Row, row, at, put, firing}
use Rattle.gos_plan.specs.Plans.{End, PartEnd, ImportEnd, ResultEnd, Plan, contact_at, turned_if}
use Rattle.gos_plan.specs.Tokens.{Tokens, Element, Fire, Out, In, token_at, fired, with_token, with_state, with_place, end_of, shake_of, way_of, way_taken, way_put, Passes, Does}
use Rattle.gos_plan.specs.Turns.{IsEmptyAt}
use Rattle.gos_plan.specs.Orderly.{Open, with_open, after_taken, after_put, after_puts, ComesWell, AllComeWell, ComesInOrder, AllWelcome}
use Rattle.gos_realises.specs.realises.Regular.{Pass, pass, way_in, way_out, is_open, KeepsTurnsOf, ComesInTurn, KeepsTurns}
use Rattle.gos_realises.specs.realises.Matched.{shows, GoesOn, Agrees, program_of, RealisesInTurn}
use Rattle.gos_realises.proofs.realises.OneJointLemmas.{Lies, rests_alone, is_idle, with_request, with_answer, not_both}
use Rattle.gos_realises.proofs.realises.RingLemmas.{after, OutputTurns, IsCircle, IsRing, IsFirst, ring_realises}

pub data Stage : Type 0 where
  Resting Asked Answered : Stage

abbrev pub next : ℕ → Stage → Element
next number Resting = In (ResultEnd 0) 0
next number Asked = Fire 0 (Req 0)
next number Answered = Out (ResultEnd 0) number

abbrev pub succ : Stage → Stage
succ Resting = Asked
succ Asked = Answered
succ Answered = Resting

abbrev pub At : ℕ → Stage → Tokens → Type 0
At number Resting s = Lies (ResultEnd 0) None None s
At number Asked s = Lies (ResultEnd 0) (Some 0) None s
At number Answered s = Lies (ResultEnd 0) None (Some number) s

abbrev pub OpenAt : Stage → Open → Type 0
OpenAt Resting o = o (ResultEnd 0) ≡ false
OpenAt Asked o = o (ResultEnd 0) ≡ true
OpenAt Answered o = o (ResultEnd 0) ≡ true

abbrev pub Opened : Stage → (End → Bool) → Type 0
Opened Resting f = f (ResultEnd 0) ≡ false
Opened Asked f = f (ResultEnd 0) ≡ true
Opened Answered f = f (ResultEnd 0) ≡ true

pub run_is_no_output : (o : Label) → IsTrue (is_output o) → Showing o ≡ Showing (given 0 0) → ⊥
run_is_no_output o out e =
    let is : o ≡ given 0 0 = cc e in
    let no : false ≡ true = subst (λ (l : Label). IsTrue (is_output l)) is out in cc no

pub running_is_not_idle : (m : Term) → Running m [] ≡ Idle → ⊥
running_is_not_idle m e = cc e

-- the plan of the part alone
abbrev pub alone : ℕ → Type' → Part → Plan
alone weight t k =
    record {
      weight = weight;
      imports = [];
      outcome = t;
      parts = k ∷ [];
      joints = record { asking = ResultEnd 0; serving = PartEnd 0 0 } ∷ [];
    }

-- the row by which it answers
abbrev pub answer : ℕ → ℕ → Row
answer number n = row (Req 0) (at Rest n) (λ v. put (Ans 0) number)

-- the type has one handshake, and the part fires by this row alone
pub record Answers (t : Type') (k : Part) (width number : ℕ) : Type 0 where
  pub asking : turned_if (slice_get (contacts_of t) 0) ≡ Some (asks 0 width)
  pub single : (h : ℕ) → turned_if (slice_get (contacts_of t) (suc h)) ≡ None
  pub turns : (f : ℕ → Bool) → KeepsTurnsOf t f
  pub fires : (q : State) → q.phase ≡ Rest → firing k q (Req 0) ≡ Some (answer number q.number)
  pub only : (q : State) (x : Slot) (r : Row) → q.phase ≡ Rest → firing k q x ≡ Some r → Req 0 ≡ x
  pub takes : (x : Slot) (c : Contact) → slice_get (part_contacts k) (shake_of x) ≡ Some c → way_taken c.role ≡ way_of x → Req 0 ≡ x

module _ (weight : ℕ) (t : Type') (k : Part) (width number : ℕ) (is : Answers t k width number) where
  abbrev plan : Plan
  plan = alone weight t k

  the_row : (s : Tokens) (r : Row) → (s.state 0).phase ≡ Rest → firing k (s.state 0) (Req 0) ≡ Some r → answer number (s.state 0).number ≡ r
  the_row s r rest fires = same_Some (answer number (s.state 0).number) r (sym (is.fires (s.state 0) rest) ∙ fires)

  -- a part fires where a request lies
  fires_asked : (i : ℕ) (x : Slot) (s w : Tokens) (b : Option ℕ) → Lies (ResultEnd 0) (Some 0) b s → Does plan (Fire i x) s w → Fire i x ≡ Fire 0 (Req 0)
  fires_asked zero x s w b here (v, r, lies, fires, leads) = ap (Fire 0) (sym (is.only (s.state 0) x r (here.rests 0) fires))
  fires_asked (suc i) x s w b here (v, r, lies, fires, leads) = absurd (none-some r fires)

  fires_not : (i : ℕ) (x : Slot) (s w : Tokens) (b : Option ℕ) → Lies (ResultEnd 0) None b s → Does plan (Fire i x) s w → ⊥
  fires_not zero x s w b here (v, r, lies, fires, leads) =
      let one = is.only (s.state 0) x r (here.rests 0) fires in
      not_both (s.in_place Request (ResultEnd 0)) v here.request
      (subst (λ (y : Slot). token_at plan s (end_of 0 y) (way_of y) ≡ Some v) (sym one) lies)
  fires_not (suc i) x s w b here (v, r, lies, fires, leads) = none-some r fires

  -- what passes at the result
  passes_out : (v : ℕ) (s w : Tokens) → Does plan (Out (ResultEnd 0) v) s w
      → (s.in_place Answer (ResultEnd 0) ≡ Some v) × (w ≡ with_token plan (ResultEnd 0) Answer None s)
  passes_out v s w does = subst (λ (c : Option Contact). Passes plan (Out (ResultEnd 0) v) c s w) is.asking does.1

  passes_in : (v : ℕ) (s w : Tokens) → Does plan (In (ResultEnd 0) v) s w → (v < 1) × (w ≡ with_token plan (ResultEnd 0) Request (Some v) s)
  passes_in v s w does = subst (λ (c : Option Contact). Passes plan (In (ResultEnd 0) v) c s w) is.asking does.1

  -- an output is of the result, where an answer lies
  out_answer : (e : End) (v : ℕ) (s w : Tokens) → Does plan (Out e v) s w → (e ≡ ResultEnd 0) × (s.in_place Answer (ResultEnd 0) ≡ Some v)
  out_answer (PartEnd i h) v s w does = absurd does.0
  out_answer (ImportEnd i h) v s w does = absurd does.1
  out_answer (ResultEnd zero) v s w does = (refl, (passes_out v s w does).0)
  out_answer (ResultEnd (suc h)) v s w does = absurd (subst (λ (c : Option Contact). Passes plan (Out (ResultEnd (suc h)) v) c s w) (is.single h) does.1)

  in_request : (e : End) (v : ℕ) (s w : Tokens) → Does plan (In e v) s w → (e ≡ ResultEnd 0) × (v ≡ 0)
  in_request (PartEnd i h) v s w does = absurd does.0
  in_request (ImportEnd i h) v s w does = absurd does.1
  in_request (ResultEnd zero) v s w does = let small = (passes_in v s w does).0 in (refl, omega (arith, small))
  in_request (ResultEnd (suc h)) v s w does = absurd (subst (λ (c : Option Contact). Passes plan (In (ResultEnd (suc h)) v) c s w) (is.single h) does.1)

  leads : (q : Stage) (s w : Tokens) → At number q s → Does plan (next number q) s w → At number (succ q) w
  leads Resting s w here does =
      subst (λ x. Lies (ResultEnd 0) (Some 0) None x) (sym (passes_in 0 s w does).1) (with_request (ResultEnd 0) None None (Some 0) s here)
  leads Answered s w here does =
      subst (λ x. Lies (ResultEnd 0) None None x) (sym (passes_out number s w does).1) (with_answer (ResultEnd 0) None (Some number) None s here)
  leads Asked s w here (v, r, lies, fires, to) =
      let one = the_row s r (here.rests 0) fires in
      subst (λ x. Lies (ResultEnd 0) None (Some number) x) (sym (to ∙ ap (λ x. fired plan 0 x v s) (sym one))) made
    where
      states : (i : ℕ) → ((with_state 0 (at Rest (s.state 0).number) (with_place Request (ResultEnd 0) None s)).state i).phase ≡ Rest
      states zero = refl
      states (suc i) = let rest = here.rests (suc i) in grind (arith, rest)

      made : Lies (ResultEnd 0) None (Some number) (fired plan 0 (answer number (s.state 0).number) v s)
      made =
          let taken = with_request (ResultEnd 0) (Some 0) None None s here in
          with_answer (ResultEnd 0) None None (Some number) (with_state 0 (at Rest (s.state 0).number) (with_place Request (ResultEnd 0) None s))
          (record { request = taken.request; answer = taken.answer; no_other = taken.no_other; rests = states })

  fires : (q : Stage) (i : ℕ) (x : Slot) (s w : Tokens) → At number q s → Does plan (Fire i x) s w → Fire i x ≡ next number q
  fires Resting i x s w here does = absurd (fires_not i x s w None here does)
  fires Asked i x s w here does = fires_asked i x s w None here does
  fires Answered i x s w here does = absurd (fires_not i x s w (Some number) here does)

  puts_out : (q : Stage) (e : End) (v : ℕ) (s w : Tokens) → At number q s → Does plan (Out e v) s w → Out e v ≡ next number q
  puts_out Resting e v s w here does = absurd (not_both (s.in_place Answer (ResultEnd 0)) v here.answer (out_answer e v s w does).1)
  puts_out Asked e v s w here does = absurd (not_both (s.in_place Answer (ResultEnd 0)) v here.answer (out_answer e v s w does).1)
  puts_out Answered e v s w here does =
      let (at_result, lies) = out_answer e v s w does in
      let one : v ≡ number = same_Some v number (sym lies ∙ here.answer) in
      λ i. Out (at_result i) (one i)

  -- an input may come where the result's handshake is not open
  comes_in : (q : Stage) (e : End) (v : ℕ) (f : End → Bool) → Opened q f → (e ≡ ResultEnd 0) × (v ≡ 0) → f (ResultEnd 0) ≡ false
      → In e v ≡ next number q
  comes_in Resting e v f o (at_result, none) shut = λ i. In (at_result i) (none i)
  comes_in Asked e v f o it shut = let no : true ≡ false = sym o ∙ shut in absurd (cc no)
  comes_in Answered e v f o it shut = let no : true ≡ false = sym o ∙ shut in absurd (cc no)

  in_turn : (q : Stage) (e : End) (v : ℕ) (s w : Tokens) (past : List Pass)
      → Does plan (In e v) s w → Opened q (is_open past) → ComesInTurn past e (way_in (contact_at plan e)) → In e v ≡ next number q
  in_turn q e v s w past does o turn =
      let it = in_request e v s w does in
      comes_in q e v (is_open past) o it
      (subst (λ (c : Option Contact). ComesInTurn past (ResultEnd 0) (way_in c)) is.asking
      (subst (λ (x : End). ComesInTurn past x (way_in (contact_at plan x))) it.0 turn))

  passed : (q : Stage) (past : List Pass) → Opened q (is_open past) → Opened (succ q) (is_open (after plan (next number q) past))
  passed Resting past o = ap (λ (c : Option Contact). is_open (pass (ResultEnd 0) (way_in c) ∷ past) (ResultEnd 0)) is.asking
  passed Asked past o = o
  passed Answered past o = ap (λ (c : Option Contact). is_open (pass (ResultEnd 0) (way_out c) ∷ past) (ResultEnd 0)) is.asking

  turns : (q : Stage) (past : List Pass) → Opened q (is_open past) → OutputTurns plan past (next number q)
  turns Resting past o = tt
  turns Asked past o = tt
  turns Answered past o =
      subst (λ (c : Option Contact). KeepsTurns plan past (pass (ResultEnd 0) (way_out c))) (sym is.asking)
      (o, is.turns (λ h. is_open (pass (ResultEnd 0) Answer ∷ past) (ResultEnd h)))

  comes : (q : Stage) (s w : Tokens) (o : Open)
      → At number q s → OpenAt q o → Does plan (next number q) s w → (u : Open) × ComesInOrder plan (next number q) s o u × OpenAt (succ q) u
  comes Resting s w o here now does = (
    with_open (ResultEnd 0) true o,
    (λ c there. subst (λ (d : Contact). ComesWell plan (ResultEnd 0) (way_put d.role) o s
        × (with_open (ResultEnd 0) true o ≡ after_put plan (ResultEnd 0) (way_put d.role) o))
        (same_Some (asks 0 width) c (sym is.asking ∙ there)) (now, refl)),
    refl,
  )
  comes Asked s w o here now does = (
    o,
    (λ v r lies fires. subst (λ (x : Row). AllComeWell plan 0 (x.puts v) o (with_state 0 (x.next v) (with_token plan (end_of 0 x.takes) (way_of x.takes) None s))
        × (o ≡ after_puts plan 0 (x.puts v) o))
        (the_row s r (here.rests 0) fires) (((now, nothing_lies), tt), refl)),
    now,
  )
    where
      nothing_lies : IsEmptyAt plan (with_state 0 (at Rest (s.state 0).number) (with_token plan (PartEnd 0 0) Request None s)) (PartEnd 0 0)
      nothing_lies Request = refl
      nothing_lies Answer = here.answer
  comes Answered s w o here now does = (
    with_open (ResultEnd 0) false o,
    (λ c there. subst (λ (d : Contact). with_open (ResultEnd 0) false o ≡ after_taken plan (ResultEnd 0) (way_taken d.role) o)
        (same_Some (asks 0 width) c (sym is.asking ∙ there)) refl),
    refl,
  )

  -- the part takes whatever waits for it
  takes_all : (s : Tokens) → (s.state 0).phase ≡ Rest → AllWelcome plan s
  takes_all s rests zero x c v there way lies = (
    answer number (s.state 0).number,
    subst (λ (y : Slot). firing k (s.state 0) y ≡ Some (answer number (s.state 0).number)) (is.takes x c there way) (is.fires (s.state 0) rests),
  )
  takes_all s rests (suc i) x c v there way lies = absurd (none-some c there)

  welcome : (q : Stage) (s : Tokens) → At number q s → AllWelcome plan s
  welcome Resting s here = takes_all s (here.rests 0)
  welcome Asked s here = takes_all s (here.rests 0)
  welcome Answered s here = takes_all s (here.rests 0)

  pub circle : IsCircle plan Stage (next number) succ (At number) OpenAt Opened
  circle =
      record {
        leads = leads;
        fires = fires;
        puts_out = puts_out;
        in_turn = in_turn;
        passed = passed;
        turns = turns;
        comes = comes;
        welcome = welcome;
      }

  pub first : IsFirst plan Stage (At number) OpenAt Opened Resting
  first = record { rests = λ s idle. rests_alone (ResultEnd 0) plan s idle; none = refl; closed = refl }

  -- a term that ends with the number's label realises it
  module _ (m : Term) (ends : Moves (program_of plan m) (Showing (given 1 number) ∷ []) (Running m []) Idle) where
    abbrev program : Program
    program = program_of plan m

    abbrev acts : Stage → List Act
    acts Resting = Showing (given 0 0) ∷ []
    acts Asked = []
    acts Answered = Showing (given 1 number) ∷ []

    abbrev config : Stage → Config
    config Resting = Idle
    config Asked = Running m []
    config Answered = Running m []

    idle_is_stalled : Stalled program Idle
    idle_is_stalled = (λ d move. let e = move.0 in cc e, λ o d out move. run_is_no_output o out move.0)

    agrees : (q : Stage) (s : Tokens) → At number q s → Agrees plan program s (config q)
    agrees Resting s here = (λ quiet. idle_is_stalled, λ e. is_idle (ResultEnd 0) plan s here)
    agrees Asked s here = (
      λ quiet. absurd (quiet.0 0 (Req 0) (fired plan 0 (answer number (s.state 0).number) 0 s)
          (0, answer number (s.state 0).number, here.request, is.fires (s.state 0) (here.rests 0), refl)),
      λ e. absurd (running_is_not_idle m e),
    )
    agrees Answered s here = (
      λ quiet. absurd (quiet.1 (ResultEnd 0) number (with_token plan (ResultEnd 0) Answer None s) (
        tt,
        subst (λ (c : Option Contact). Passes plan (Out (ResultEnd 0) number) c s (with_token plan (ResultEnd 0) Answer None s))
            (sym is.asking) (here.answer, refl),
      )),
      λ e. absurd (running_is_not_idle m e),
    )

    moves : (q : Stage) → Moves program (acts q) (config q) (config (succ q))
    moves Resting = (Running m [], (refl, refl), refl)
    moves Asked = refl
    moves Answered = ends

    shown : (q : Stage) → labels (acts q) ≡ shows plan (next number q)
    shown Resting = refl
    shown Asked = refl
    shown Answered = refl

    goes_on : (q : Stage) (s : Tokens) → At number q s → GoesOn plan s (next number q) (acts q)
    goes_on Resting s here = tt
    goes_on Asked s here = tt
    goes_on Answered s here = tt

    ring : IsRing plan program Stage (next number) succ acts config (At number) OpenAt Opened
    ring =
        record {
          circle = circle;
          agrees = agrees;
          moves = moves;
          shown = shown;
          goes_on = goes_on;
        }

    pub answer_realises : RealisesInTurn plan m
    answer_realises = ring_realises plan m Stage (next number) succ acts config (At number) OpenAt Opened ring Resting refl first
