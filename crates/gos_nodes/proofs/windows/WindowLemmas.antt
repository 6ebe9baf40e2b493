-- Within a stage, and whole lists.
use Rattle.std.specs.Prelude.{◌≢◌, ◌^◌, ◌<◌, None, slice_get, Contains}
use Rattle.std.proofs.Common.{◌≡◌, ℕ, Bool, true, false, List, [], ◌∷◌, ◌++◌, ◌⊎◌, Option, Some, inl, inr, refl, sym, ◌∙◌, ap, subst, if◌then◌else◌}
use Rattle.std.proofs.lemmas.Option.{same_Some}
use Rattle.std.proofs.lemmas.Bool.{ne_eqb}
use Rattle.gos_types.specs.Events.{Direction, Request, Answer}
use Rattle.gos_plan.specs.Kinds.{Contact}
use Rattle.gos_plan.specs.Firing.{State, Slot, Ans, Row, at, firing}
use Rattle.gos_plan.specs.Plans.{End, PartEnd, ImportEnd, ResultEnd, Plan, contact_at}
use Rattle.gos_plan.specs.Tokens.{Tokens, Element, Fire, Out, In, places_of, with_token, with_state, with_puts, token_at, end_of, way_of, shake_of, way_taken, way_put, fired, firing_of, Passes, Does, Runs, IsIdle}
use Rattle.gos_plan.specs.TokenBits.{AllFit}
use Rattle.gos_plan.proofs.TurnLemmas.{token_state, fired_state}
use Rattle.gos_plan.proofs.TokenBitsLemmas.{all_stay_fit}
use Rattle.gos_realises.specs.realises.Regular.{Pass, pass, way_in, way_out, is_open, ComesInTurn, KeepsTurns, InputsKeepTurns}
use Rattle.gos_realises.proofs.realises.InputLemmas.{passed, passed_then, inputs_then, InputTurns, first_turn, later_turns, outputs_last, runs_then, in_there, out_there}
use Rattle.gos_realises.proofs.realises.RingLemmas.{after}
use Rattle.gos_joining.specs.webs.Cutting.{StandsIn}
use Rattle.gos_nodes.specs.windows.Regions.{whole_element}
use Rattle.gos_nodes.specs.windows.Nodes.{Stage}
use Rattle.gos_nodes.specs.windows.Windows.{Runner, seen, HoldsOnly, Where, Resting, Asked, Within, Answered, to_session, to_answer, IsAtPort, PassesPort, Staged, rests, waits, stays, holds, is_asked, begins, stirs, goes_on}
use Rattle.gos_nodes.proofs.windows.MeetLemmas.{Meets, met_at, met_contact, met_contacts}
use Rattle.gos_nodes.proofs.windows.TurnLemmas.{Turned, turns_before, OnlyResult, NoneOpen}
use Rattle.gos_nodes.proofs.windows.WholeLemmas.{in_turn_at, Going, Led, asks, own_leads}
use Rattle.gos_nodes.proofs.windows.NodeLemmas.{Place, AtRest, AtAsked, AtStage, AtAnswer, Holds, Result, rest_step, asked_step, answer_step, own_fired, own_firing}
use Rattle.gos_nodes.specs.windows.OneSession.{IsAsked, Stays, IsOneSession}
use Rattle.gos_nodes.proofs.windows.OneSessionLemmas.{open_then, then_one, ended_is_one, well_before}
use Rattle.gos_nodes.proofs.windows.RunnerLemmas.{RunsStages, AreRestful}
use Rattle.gos_nodes.specs.windows.Windows as windows
use Rattle.gos_nodes.proofs.windows.AskedLemmas.{asked_out, asked_shut, answered_shut}
use Rattle.gos_nodes.proofs.windows.StageLemmas.{Emptied, stage, InStage, OnStage, lies, end_is, fires_in, out_in, in_in, in_none, port_contact, answers, answer_fits, emptied}
use Rattle.gos_nodes.proofs.windows.FollowLemmas.{Follows, has_ports, standing, follows_step, asked_meets, stage_turned, comes_as}
use Rattle.gos_nodes.proofs.windows.WholeLemmas as whole

met_stays : (r : Plan) (g : Stage) (i h : ℕ) → Meets r g.cut g.plan i h → StandsIn g.plan (ImportEnd i h) ⊎ IsAsked g.plan (ImportEnd i h)
met_stays r g i h (inl joined) = inl joined.stands
met_stays r g i h (inr none) = inr (none.contact, none.own, none.asks)

abbrev OneTurn : Plan → List Pass → Element → Type 0
OneTurn p past y = InputsKeepTurns p past (y ∷ [])

-- The ends at which an element of a stage passes: an output is at a joint; an input is at an import, and at no joint where the
-- whole has none.
abbrev pub Standing : Plan → Stage → Element → Type 0
Standing r g (Fire i t) = Unit {0}
Standing r g (Out e v) = StandsIn g.plan e
Standing r g (In e v) = (i n : ℕ) × (e ≡ ImportEnd i n) × Meets r g.cut g.plan i n

module _ (r : Plan) (d : ℕ) (runner : Runner) (gs : List Stage) (node : RunsStages r d runner gs) (restful : AreRestful runner gs) where
  passes_port : (g : Stage) → Contains gs g → (y : Element) → Stays g.plan y → Standing r g y → PassesPort r g y
  passes_port g has (Fire i t) remains at = tt
  passes_port g has (Out (PartEnd i h) v) remains at = tt
  passes_port g has (Out (ImportEnd i h) v) remains at = (stage r d runner gs node.base g has).ports i h remains
  passes_port g has (Out (ResultEnd h) v) remains at = tt
  passes_port g has (In e v) remains (i, n, is, meets) =
      subst (IsAtPort r g) (sym is) (met_at r g.cut g.plan (has_ports r d runner gs node.base g has) i n meets)

  -- what an element of a stage is: one of its plan, in turn, after which the stage still runs
  pub record StageStep (g : Stage) (has : Contains gs g) (hs : List Element) (before s t : Tokens) (past : List Pass) (x : Element) : Type 0 where
    pub y : Element
    pub is : whole_element g.cut y ≡ x
    pub does : Does g.plan y (seen g s) (seen g t)
    pub turn : OneTurn g.plan (passed g.plan [] hs) y
    pub stays : Stays g.plan y
    pub standing : Standing r g y
    pub going : Going r d runner gs node g has (hs ++ y ∷ []) before t past

  -- the own part takes the stage's answer
  pub record OwnStep (g : Stage) (has : Contains gs g) (hs : List Element) (before s t : Tokens) (past : List Pass) (x : Element) : Type 0 where
    pub v : ℕ
    pub row : Row
    pub end : Tokens
    pub is : x ≡ Fire d (Ans g.asked_at)
    pub does : Does g.plan (Out (ResultEnd (runner.asked g)) v) (seen g s) end
    pub idle : IsIdle g.plan end
    pub fits : v < 2 ^ runner.answer_bits g
    pub held : token_at r s (PartEnd d g.asked_at) Answer ≡ Some v
    pub empty : Emptied d (with_token r (PartEnd d g.asked_at) Answer None s)
    pub by : firing_of (slice_get r.parts d) (s.state d) (Ans g.asked_at) ≡ Some row
    pub leads : t ≡ fired r d row v s
    pub fires : firing runner.part (s.state d) (Ans g.asked_at) ≡ Some row
    pub state : t.state d ≡ row.next v
    pub only : OnlyResult past
    pub led : Led r d runner gs node row v t past

  pub stage_out_turned : (g : Stage) (has : Contains gs g) (hs : List Element) (before s t : Tokens) (past : List Pass) → Going r d runner gs node g has hs before s past
      → (e : End) (v : ℕ) → IsOneSession (runner.asked g) g.plan (hs ++ Out e v ∷ []) → Does g.plan (Out e v) (seen g s) (seen g t) → KeepsTurns g.plan (passed g.plan [] hs) (pass e (way_out (contact_at g.plan e)))
  stage_out_turned g has hs before s t past going e v session does =
      let ran = runs_then g.plan hs (Out e v) before (seen g s) (seen g t) going.ran.ran does in
      let turns = inputs_then g.plan [] hs (Out e v ∷ []) going.ran.turns tt in
      let all = (stage r d runner gs node.base g has).regular before (seen g t) (hs ++ Out e v ∷ []) going.ran.tidy going.ran.idle session ran turns in
      (outputs_last g.plan [] hs (Out e v ∷ []) all.1).0

  module _
      (g : Stage) (has : Contains gs g) (hs : List Element) (before s t : Tokens) (past : List Pass) (going : Going r d runner gs node g has hs before s past)
      (fit : AllFit r s) where
    abbrev own : List Pass
    own = passed g.plan [] hs

    within : InStage r d runner gs node.base g has s
    within = going.stirs.places

    -- the stage goes on
    on_by : (x y : Element) (later : List Pass) → whole_element g.cut y ≡ x → Does g.plan y (seen g s) (seen g t) → OneTurn g.plan own y → Stays g.plan y → Standing r g y → Turned g.plan (after g.plan y own)
        → InStage r d runner gs node.base g has t → t.state d ≡ s.state d → ((i : ℕ) → g.cut.number i ≡ None → t.state i ≡ s.state i)
        → Follows r runner g (after g.plan y own) later → StageStep g has hs before s t later x
    on_by x y later is does turn remains standing turned in_stage own_state others follows =
        record {
          y = y;
          is = is;
          does = does;
          turn = turn;
          stays = remains;
          standing = standing;
          going =
              record {
                ran =
                    record {
                      idle = going.ran.idle;
                      ran = runs_then g.plan hs y before (seen g s) (seen g t) going.ran.ran does;
                      turns = inputs_then g.plan [] hs (y ∷ []) going.ran.turns turn;
                      tidy = going.ran.tidy;
                      session = open_then (runner.asked g) g.plan hs y going.ran.session remains;
                    };
                turned = subst (Turned g.plan) (sym (passed_then g.plan [] hs y)) turned;
                stirs =
                    record {
                      session = ap (λ (q : State). runner.waits q) own_state ∙ going.stirs.session;
                      states = λ i apart out. ap (λ (q : State). q.phase) (others i out) ∙ going.stirs.states i apart out;
                      places = in_stage;
                    };
                follows = subst (λ (l : List Pass). Follows r runner g l later) (sym (passed_then g.plan [] hs y)) follows;
              };
        }

    own_kept : (i j : ℕ) (slot : Slot) → g.cut.number i ≡ Some j → Does r (Fire i slot) s t → (n : ℕ) → g.cut.number n ≡ None → t.state n ≡ s.state n
    own_kept i j slot number (v, row, held, by, leads) n out =
        ap (λ (x : Tokens). x.state n) leads
        ∙ (fired_state r i row v s n ∙ ap (λ (b : Bool). if b then row.next v else s.state n) (ne_eqb n i apart))
      where
        apart : n ≢ i
        apart same = let clash : None ≡ Some j = sym out ∙ (ap g.cut.number same ∙ number) in absurd (cc clash)

    fire_step : (i j : ℕ) (slot : Slot) → g.cut.number i ≡ Some j → Does r (Fire i slot) s t → StageStep g has hs before s t past (Fire i slot)
    fire_step i j slot number does =
        let at_j = (stage r d runner gs node.base g has).region.numbers i j number in
        let (own_does, in_stage) = fires_in r d runner gs node.base g has before s t hs going.ran within i j number slot does in
        on_by (Fire i slot) (Fire j slot) past (ap (λ (n : ℕ). Fire n slot) at_j.0) own_does tt tt tt going.turned in_stage
        (own_kept i j slot number does d (stage r d runner gs node.base g has).outside) (own_kept i j slot number does) going.follows

    -- an output at a port
    out_step : (b : End) (v : ℕ) → Does r (Out b v) s t → StageStep g has hs before s t (after r (Out b v) past) (Out b v)
    out_step b v does =
        let (i, h, stands, at, own_does, in_stage) = out_in r d runner gs node.base g has b v s t within does in
        let (c, there) = out_there r b v s t does in
        let passes = subst (λ (o : Option Contact). Passes r (Out b v) o s t) there does.1 in
        let state = λ (n : ℕ). ap (λ (x : Tokens). x.state n) passes.1 ∙ token_state r b (way_taken c.role) None s n in
        let ways = ap way_out (port_contact r d runner gs node.base g has i h b stands at) in
        on_by (Out b v) (Out (ImportEnd i h) v) (after r (Out b v) past) (ap (λ (e : End). Out e v) at) own_does tt stands stands
        (stage_out_turned g has hs before s t past going (ImportEnd i h) v (then_one (runner.asked g) g.plan hs (Out (ImportEnd i h) v) going.ran.session stands) own_does).1 in_stage (state d) (λ n out. state n)
        (subst (λ (way : Direction). Follows r runner g (after g.plan (Out (ImportEnd i h) v) own) (pass b way ∷ past)) (sym ways)
        (follows_step r d runner gs node.base g has own past going.follows i h b (standing r d runner gs node.base g has i h stands) at (way_out (contact_at g.plan (ImportEnd i h)))))

    -- an input at an import
    in_at : (b : End) (v i h : ℕ) → Does r (In b v) s t → KeepsTurns r past (pass b (way_in (contact_at r b))) → Meets r g.cut g.plan i h → g.cut.outer (ImportEnd i h) ≡ b
        → StageStep g has hs before s t (after r (In b v) past) (In b v)
    in_at b v i h does turn meets at =
        on_by (In b v) (In (ImportEnd i h) v) (after r (In b v) past) (ap (λ (e : End). In e v) at) own_does.0 (own_turn, tt) (met_stays r g i h meets) (i, h, refl, meets) own_turn.1
        own_does.1 (state d) (λ n out. state n) follows
      where
        there : (c : Contact) × (contact_at r b ≡ Some c)
        there = in_there r b v s t does

        contacts : contact_at r b ≡ contact_at g.plan (ImportEnd i h)
        contacts = met_contacts r g.cut g.plan (has_ports r d runner gs node.base g has) i h b meets at

        passes : Passes r (In b v) (Some there.0) s t
        passes = subst (λ (o : Option Contact). Passes r (In b v) o s t) there.1 does.1

        state : (n : ℕ) → t.state n ≡ s.state n
        state n = ap (λ (x : Tokens). x.state n) passes.1 ∙ token_state r b (way_put there.0.role) (Some v) s n

        own_does : Does g.plan (In (ImportEnd i h) v) (seen g s) (seen g t) × InStage r d runner gs node.base g has t
        own_does =
            elim meets [
              | inl joined ↦ in_in r d runner gs node.base g has b v s t i h within joined.stands at does
              | inr none ↦
                  (let none_there : places_of r b ≡ None = ap (places_of r) (sym at ∙ none.outer) ∙ none.none in
                  in_none r d runner gs node.base g has b v s t i h within contacts none_there none.own_none does)
            ]

        follows : Follows r runner g (after g.plan (In (ImportEnd i h) v) own) (after r (In b v) past)
        follows =
            subst (λ (way : Direction). Follows r runner g (after g.plan (In (ImportEnd i h) v) own) (pass b way ∷ past)) (sym (ap way_in contacts))
            (follows_step r d runner gs node.base g has own past going.follows i h b meets at (way_in (contact_at g.plan (ImportEnd i h))))

        own_turn : KeepsTurns g.plan own (pass (ImportEnd i h) (way_in (contact_at g.plan (ImportEnd i h))))
        own_turn = (
          subst (ComesInTurn own (ImportEnd i h)) (ap way_in contacts)
              (comes_as r d runner gs node.base g has own past going.follows i h b meets at (way_in (contact_at r b)) turn.0),
          stage_turned r d runner gs node.base g has (after g.plan (In (ImportEnd i h) v) own) (after r (In b v) past) follows turn.1,
        )

    in_step : (b : End) (v : ℕ) → Does r (In b v) s t → KeepsTurns r past (pass b (way_in (contact_at r b)))
        → StageStep g has hs before s t (after r (In b v) past) (In b v)
    in_step b v does turn =
        elim (in_turn_at r d runner gs node b v s t past does turn) [
          | inl (is, none, shut, leads) ↦
              (let clash : true ≡ false = sym going.follows.result ∙ shut in absurd (cc clash))
          | inr (k, h, n, is, up, inl same) ↦
              (let (i, meets, at) = going.follows.only k h (ap (λ (m : ℕ). is_open past (ImportEnd k m)) (sym same) ∙ up) in
              in_at b v i h does turn meets (at ∙ sym is))
          | inr (k, h, n, is, up, inr (c, at_k, role)) ↦
              (let (i, meets, at) = asked_meets r d runner gs node.base g has own past going.follows k h n c up at_k role in
              in_at b v i h does turn meets (at ∙ sym is))
        ]

    -- the own part
    own_answer : (i : ℕ) (slot : Slot) → g.cut.number i ≡ None → Does r (Fire i slot) s t → OwnStep g has hs before s t past (Fire i slot)
    own_answer i slot out (v, row, held, by, leads) =
        record {
          v = v;
          row = row;
          end = seen g (with_token r (PartEnd d g.asked_at) Answer None s);
          is = λ l. Fire (which.0 l) (slot_is l);
          does = own_does.0;
          idle = idle;
          fits = answer_fits r d runner gs node.base g has s fit within v held_so;
          held = held_so;
          empty = empty;
          by = ap (λ (x : Slot). firing_of (slice_get r.parts d) (s.state d) x) (sym slot_is) ∙ by_own;
          leads = leads ∙ ap (λ (n : ℕ). fired r n row v s) which.0;
          fires = fires.1;
          state = fires.2;
          only = only;
          led = led;
        }
      where
        on : OnStage r d runner gs node.base g has (end_of i slot)
        on = lies r d runner gs node.base g has s within (end_of i slot) (way_of slot) v held

        which : (i ≡ d) × (shake_of slot ≡ g.asked_at) × StandsIn g.plan (ResultEnd (runner.asked g))
        which =
            elim (end_is r d runner gs node.base g has i (shake_of slot) on.own on.owned on.stands on.lies) [
              | inl inside ↦ (let clash : None ≡ Some inside.0 = sym out ∙ inside.1 in absurd (cc clash))
              | inr at ↦ at
            ]

        by_own : firing_of (slice_get r.parts d) (s.state d) slot ≡ Some row
        by_own = ap (λ (n : ℕ). firing_of (slice_get r.parts n) (s.state n) slot) (sym which.0) ∙ by

        slot_is : slot ≡ Ans g.asked_at
        slot_is =
            elim (node.table.no_other (s.state d) slot row (own_firing r d runner gs node slot row s by_own)) [
              | inl (resting, is) ↦ absurd (node.table.none_at_rest (s.state d) g.asked_at resting going.stirs.session)
              | inr (h, is, asked) ↦ asked ∙ ap Ans (same_Some h g.asked_at (sym is ∙ going.stirs.session))
            ]

        held_so : token_at r s (PartEnd d g.asked_at) Answer ≡ Some v
        held_so = (λ l. token_at r s (end_of (sym which.0 l) (sym slot_is l)) (way_of (sym slot_is l))) ∙ held

        fires : (t ≡ with_puts r d (row.puts v) (with_state d (row.next v) (with_token r (PartEnd d g.asked_at) Answer None s)))
            × (firing runner.part (s.state d) (Ans g.asked_at) ≡ Some row) × (t.state d ≡ row.next v)
        fires =
            own_fired r d runner gs node (Ans g.asked_at) v row s t (ap (λ (x : Slot). firing_of (slice_get r.parts d) (s.state d) x) (sym slot_is) ∙ by_own)
            (leads ∙ ap (λ (n : ℕ). fired r n row v s) which.0)

        own_does : Does g.plan (Out (ResultEnd (runner.asked g)) v) (seen g s) (seen g (with_token r (PartEnd d g.asked_at) Answer None s))
            × InStage r d runner gs node.base g has (with_token r (PartEnd d g.asked_at) Answer None s)
        own_does = answers r d runner gs node.base g has s within v held_so

        idle : IsIdle g.plan (seen g (with_token r (PartEnd d g.asked_at) Answer None s))
        idle =
            restful g has before (seen g (with_token r (PartEnd d g.asked_at) Answer None s)) hs v going.ran.tidy going.ran.idle going.ran.session
            (runs_then g.plan hs (Out (ResultEnd (runner.asked g)) v) before (seen g s) (seen g (with_token r (PartEnd d g.asked_at) Answer None s)) going.ran.ran own_does.0)
            (inputs_then g.plan [] hs (Out (ResultEnd (runner.asked g)) v ∷ []) going.ran.turns tt)

        empty : Emptied d (with_token r (PartEnd d g.asked_at) Answer None s)
        empty =
            emptied r d runner gs node.base g has (with_token r (PartEnd d g.asked_at) Answer None s) own_does.1
            (λ n apart outside. ap (λ (q : State). q.phase) (token_state r (PartEnd d g.asked_at) Answer None s n) ∙ going.stirs.states n apart outside) idle

        answered : Turned g.plan (pass (ResultEnd (runner.asked g)) Answer ∷ own)
        answered =
            subst (λ (w : Direction). Turned g.plan (pass (ResultEnd (runner.asked g)) w ∷ own))
            (asked_out g.plan _ _ _ (stage r d runner gs node.base g has).asked)
            (stage_out_turned g has hs before s (with_token r (PartEnd d g.asked_at) Answer None s) past going (ResultEnd (runner.asked g)) v (ended_is_one (runner.asked g) g.plan hs v going.ran.session) own_does.0).1

        none_open : (k : ℕ) → is_open (pass (ResultEnd (runner.asked g)) Answer ∷ own) (ResultEnd k) ≡ false
        none_open = answered_shut (runner.asked g) own going.follows.alone

        -- with the answer the stage closes what it opened
        only : OnlyResult past
        only = (going.follows.result, λ k h. closed k h (is_open past (ImportEnd k h)) refl)
          where
            closed : (k h : ℕ) (b : Bool) → is_open past (ImportEnd k h) ≡ b → b ≡ false
            closed k h false shut = refl
            closed k h true up =
                let (i, meets, at) = going.follows.only k h up in
                let (c, there) = met_contact r g.cut g.plan (has_ports r d runner gs node.base g has) i h meets in
                let own_up : is_open own (ImportEnd i h) ≡ true = going.follows.imports.same i h k meets at ∙ up in
                sym own_up
                ∙ asked_shut g.plan _ _ _ (stage r d runner gs node.base g has).asked (pass (ResultEnd (runner.asked g)) Answer ∷ own) answered none_open
                i h c there

        led : Led r d runner gs node row v t past
        led =
            own_leads r d runner gs node (with_token r (PartEnd d g.asked_at) Answer None s) t row v past empty fires.0 only
            (node.table.goes_on (s.state d) g v row has going.stirs.session (answer_fits r d runner gs node.base g has s fit within v held_so) fires.1)

  -- the rest of a list
  abbrev Rest' : List Element → Type 0
  Rest' xs =
      (pl : Place gs) (s t : Tokens) (past : List Pass)
      → AllFit r s → Holds r d runner gs node pl s past → Runs r xs s t → InputsKeepTurns r past xs → Result r d runner gs node pl xs s

  pub fit_after : (x : Element) (s w : Tokens) → AllFit r s → Does r x s w → AllFit r w
  fit_after x s w fit does = all_stay_fit r (x ∷ []) s w node.base.right node.base.literals fit (w, does, refl)

  led_on : (xs : List Element) → Rest' xs → (row : Row) (v : ℕ) (w t : Tokens) (past : List Pass) → AllFit r w → Led r d runner gs node row v w past → Runs r xs w t
      → InputsKeepTurns r past xs → (there : Where) × windows.LeadsTo r d runner gs row v w there × Staged r d runner gs there xs w
  led_on xs rest row v w t past fit (asks g has n before fits going does puts) runs turns =
      let (ys, end, staged, ran, kept, well) = rest (AtStage g has (In (ResultEnd (runner.asked g)) n ∷ []) before) w t past fit going runs turns in (
        Within g ys,
        to_session g n ys has fits going.stirs
            (record {
              before = before;
              after = end;
              idle = going.ran.idle;
              asked = does;
              runs = ran;
              turns = turns_before g.plan [] (In (ResultEnd (runner.asked g)) n) ys going.ran.turns kept;
              tidy = going.ran.tidy;
              well = well;
            }) puts,
        staged,
      )
  led_on xs rest row v w t past fit (whole.replies k holding only puts) runs turns =
      (Answered k, to_answer k holding puts, rest (AtAnswer k) w t past fit (holding, only) runs turns)

  rest_case : (x : Element) (xs : List Element) → Rest' xs → (s t : Tokens) (past : List Pass) → AllFit r s → IsIdle r s × NoneOpen past → Runs r (x ∷ xs) s t
      → InputsKeepTurns r past (x ∷ xs) → Staged r d runner gs Resting (x ∷ xs) s
  rest_case x xs rest s t past fit (idle, closed) (w, does, runs) turns =
      let (is, holding, only) = rest_step r d runner gs node x s w past idle closed does (first_turn r past x xs turns) in
      let later = rest AtAsked w t (after r x past) (fit_after x s w fit does) (holding, only) runs (later_turns r past x xs turns) in
      subst (λ (y : Element). Staged r d runner gs Resting (y ∷ xs) s) (sym is) (is_asked s w xs idle (subst (λ (y : Element). Does r y s w) is does) later)

  asked_case : (x : Element) (xs : List Element) → Rest' xs → (s t : Tokens) (past : List Pass) → AllFit r s
      → HoldsOnly r (PartEnd d runner.run) Request 0 s × OnlyResult past → Runs r (x ∷ xs) s t → InputsKeepTurns r past (x ∷ xs)
      → Staged r d runner gs Asked (x ∷ xs) s
  asked_case x xs rest s t past fit (holding, only) (w, does, runs) turns =
      let step = asked_step r d runner gs node x s w past holding only does (first_turn r past x xs turns) in
      let (there, leads, staged) = led_on xs rest step.row 0 w t (after r x past) (fit_after x s w fit does) step.led runs (later_turns r past x xs turns) in
      subst (λ (y : Element). Staged r d runner gs Asked (y ∷ xs) s) (sym step.is)
      (begins s w xs step.row there holding step.fires (subst (λ (y : Element). Does r y s w) step.is does) step.state leads staged)

  answer_case : (k : ℕ) (x : Element) (xs : List Element) → Rest' xs → (s t : Tokens) (past : List Pass) → AllFit r s
      → HoldsOnly r (ResultEnd 0) Answer k s × OnlyResult past → Runs r (x ∷ xs) s t → InputsKeepTurns r past (x ∷ xs) → Staged r d runner gs (Answered k) (x ∷ xs) s
  answer_case k x xs rest s t past fit (holding, only) (w, does, runs) turns =
      let (is, idle, closed) = answer_step r d runner gs node k x s w past holding only does (first_turn r past x xs turns) in
      let later = rest AtRest w t (after r x past) (fit_after x s w fit does) (idle, closed) runs (later_turns r past x xs turns) in
      subst (λ (y : Element). Staged r d runner gs (Answered k) (y ∷ xs) s) (sym is)
      (windows.replies s w xs k holding (subst (λ (y : Element). Does r y s w) is does) later)

  module _
      (g : Stage) (has : Contains gs g) (hs : List Element) (before s w : Tokens) (past : List Pass) (going : Going r d runner gs node g has hs before s past)
      (fit : AllFit r s) where
    pub stage_step : (x : Element) → Does r x s w → InputTurns r past x
        → StageStep g has hs before s w (after r x past) x ⊎ OwnStep g has hs before s w (after r x past) x
    stage_step (Out b v) does turn = inl (out_step g has hs before s w past going fit b v does)
    stage_step (In b v) does turn = inl (in_step g has hs before s w past going fit b v does turn)
    stage_step (Fire i slot) does turn = by_number (g.cut.number i) refl
      where
        by_number : (o : Option ℕ) → g.cut.number i ≡ o
            → StageStep g has hs before s w past (Fire i slot) ⊎ OwnStep g has hs before s w past (Fire i slot)
        by_number None out = inr (own_answer g has hs before s w past going fit i slot out does)
        by_number (Some j) number = inl (fire_step g has hs before s w past going fit i j slot number does)

    stage_case : (x : Element) (xs : List Element) → Rest' xs → (t : Tokens) → Does r x s w → Runs r xs w t → InputsKeepTurns r past (x ∷ xs)
        → Result r d runner gs node (AtStage g has hs before) (x ∷ xs) s
    stage_case x xs rest t does runs turns = by_step (stage_step x does (first_turn r past x xs turns))
      where
        by_step : StageStep g has hs before s w (after r x past) x ⊎ OwnStep g has hs before s w (after r x past) x
            → Result r d runner gs node (AtStage g has hs before) (x ∷ xs) s
        by_step (inl step) =
            let (ys, end, staged, ran, kept, well) =
            rest (AtStage g has (hs ++ step.y ∷ []) before) w t (after r x past) (fit_after x s w fit does) step.going runs (later_turns r past x xs turns) in (
              step.y ∷ ys,
              end,
              subst (λ (z : Element). Staged r d runner gs (Within g (step.y ∷ ys)) (z ∷ xs) s) step.is
                  (stirs s w xs ys g step.y has going.stirs step.does step.stays (passes_port g has step.y step.stays step.standing) (subst (λ (z : Element). Does r z s w) (sym step.is) does) staged),
              (seen g w, step.does, ran),
              turns_before g.plan (passed g.plan [] hs) step.y ys step.turn (subst (λ (l : List Pass). InputsKeepTurns g.plan l ys) (passed_then g.plan [] hs step.y) kept),
              well_before (runner.asked g) g.plan step.y ys step.stays well,
            )
        by_step (inr step) =
            let (there, leads, staged) = led_on xs rest step.row step.v w t (after r x past) (fit_after x s w fit does) step.led runs (later_turns r past x xs turns) in (
              Out (ResultEnd (runner.asked g)) step.v ∷ [],
              step.end,
              subst (λ (z : Element). Staged r d runner gs (Within g (Out (ResultEnd (runner.asked g)) step.v ∷ [])) (z ∷ xs) s) (sym step.is)
                  (goes_on s w xs g step.v step.end step.row there has going.stirs step.does step.idle step.fits step.held step.fires
                  (subst (λ (z : Element). Does r z s w) step.is does) step.state leads staged),
              (step.end, step.does, refl),
              tt,
              inr ([], step.v, tt, refl),
            )

  step_case : (x : Element) (xs : List Element) → Rest' xs → Rest' (x ∷ xs)
  step_case x xs rest AtRest s t past fit holding runs turns = rest_case x xs rest s t past fit holding runs turns
  step_case x xs rest AtAsked s t past fit holding runs turns = asked_case x xs rest s t past fit holding runs turns
  step_case x xs rest (AtStage g has hs before) s t past fit going (w, does, runs) turns =
      stage_case g has hs before s w past going fit x xs rest t does runs turns
  step_case x xs rest (AtAnswer k) s t past fit holding runs turns = answer_case k x xs rest s t past fit holding runs turns

  end_case : Rest' []
  end_case AtRest s t past fit holding is turns = rests s holding.0
  end_case AtAsked s t past fit holding is turns = waits s holding.0
  end_case (AtStage g has hs before) s t past fit going is turns = ([], seen g s, stays s g has going.stirs, refl, tt, inl tt)
  end_case (AtAnswer k) s t past fit holding is turns = holds s k holding.0

  pub along : (xs : List Element) → Rest' xs
  along [] = end_case
  along (x ∷ xs) = step_case x xs (along xs)
