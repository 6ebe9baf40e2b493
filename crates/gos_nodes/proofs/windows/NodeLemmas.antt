-- The list of a whole that runs stages, element by element: where the whole is, and where each element leads.
use Rattle.std.specs.Prelude.{None, slice_get, Contains}
use Rattle.std.proofs.Common.{◌≡◌, ℕ, Bool, List, [], ◌∷◌, Option, Some, inl, inr, sym, ◌∙◌, ap, subst, if◌then◌else◌}
use Rattle.gos_types.specs.Events.{Direction, Request, Answer}
use Rattle.gos_types.proofs.BoolLemmas.{true_is_not_false}
use Rattle.gos_model.proofs.NumberLemmas.{nat_eq_itself}
use Rattle.gos_plan.specs.Kinds.{Part, Contact}
use Rattle.gos_plan.specs.Firing.{Phase, Rest, State, Slot, Req, Ans, Row, at, firing}
use Rattle.gos_plan.specs.Plans.{End, PartEnd, ImportEnd, ResultEnd, Plan, contact_at}
use Rattle.gos_plan.specs.Tokens.{Tokens, Element, Fire, Out, In, IsPortEnd, places_of, with_token, with_state, with_puts, token_at, end_of, way_of, shake_of, way_taken, fired, firing_of, Passes, Does, Runs, IsIdle}
use Rattle.gos_plan.proofs.HeldLemmas.{takes_of}
use Rattle.gos_plan.proofs.TurnLemmas.{token_state, fired_state}
use Rattle.gos_realises.specs.realises.Regular.{Pass, pass, way_in, way_out, is_request, is_open, KeepsTurns, InputsKeepTurns}
use Rattle.gos_realises.proofs.realises.InputLemmas.{passed, InputTurns, out_there}
use Rattle.gos_realises.proofs.realises.IdleLemmas.{idle_token}
use Rattle.gos_realises.proofs.realises.RingLemmas.{after}
use Rattle.gos_nodes.specs.windows.Nodes.{Stage}
use Rattle.gos_nodes.specs.windows.OneSession.{EndsWell}
use Rattle.gos_nodes.specs.windows.Windows.{Runner, seen, HoldsOnly, Resting, Asked, Within, Answered, Staged}
use Rattle.gos_nodes.proofs.windows.PortLemmas.{port_end}
use Rattle.gos_nodes.proofs.windows.StageLemmas.{Emptied}
use Rattle.gos_nodes.proofs.windows.TurnLemmas.{result_in, result_out, OnlyResult, NoneOpen}
use Rattle.gos_nodes.proofs.windows.WholeLemmas.{done, result_place, own_place, at_own_joint, in_turn_at, put_only, taken_empty, only_there, held_beside, Going, Led, own_leads}
use Rattle.gos_nodes.proofs.windows.RunnerLemmas.{LeadsOn, RunsStages}

-- where the whole is
pub data Place (gs : List Stage) : Type 0 where
  AtRest : Place gs
  AtAsked : Place gs
  AtStage : (g : Stage) (has : Contains gs g) (hs : List Element) (before : Tokens) → Place gs
  AtAnswer : (v : ℕ) → Place gs

pub request_slot : (slot : Slot) (h : ℕ) → way_of slot ≡ Request → shake_of slot ≡ h → slot ≡ Req h
request_slot (Req g) h way same = ap Req same
request_slot (Ans g) h way same = absurd (cc way)

pub answer_slot : (slot : Slot) (h : ℕ) → way_of slot ≡ Answer → shake_of slot ≡ h → slot ≡ Ans h
answer_slot (Req g) h way same = absurd (cc way)
answer_slot (Ans g) h way same = ap Ans same

module _ (r : Plan) (d : ℕ) (runner : Runner) (gs : List Stage) (node : RunsStages r d runner gs) where
  abbrev pub Holds : Place gs → Tokens → List Pass → Type 0
  Holds AtRest s past = IsIdle r s × NoneOpen past
  Holds AtAsked s past = HoldsOnly r (PartEnd d runner.run) Request 0 s × OnlyResult past
  Holds (AtStage g has hs before) s past = Going r d runner gs node g has hs before s past
  Holds (AtAnswer v) s past = HoldsOnly r (ResultEnd 0) Answer v s × OnlyResult past

  abbrev pub Result : Place gs → List Element → Tokens → Type 0
  Result AtRest xs s = Staged r d runner gs Resting xs s
  Result AtAsked xs s = Staged r d runner gs Asked xs s
  Result (AtStage g has hs before) xs s =
      (ys : List Element) × (end : Tokens) × Staged r d runner gs (Within g ys) xs s × Runs g.plan ys (seen g s) end
      × InputsKeepTurns g.plan (passed g.plan [] hs) ys × EndsWell (runner.asked g) g.plan ys
  Result (AtAnswer v) xs s = Staged r d runner gs (Answered v) xs s

  -- at rest the request alone can come
  pub rest_step : (x : Element) (s t : Tokens) (past : List Pass) → IsIdle r s → NoneOpen past → Does r x s t → InputTurns r past x
      → (x ≡ In (ResultEnd 0) 0) × HoldsOnly r (PartEnd d runner.run) Request 0 t × OnlyResult (after r x past)
  rest_step (Fire i slot) s t past idle closed (v, row, held, by, leads) turn = absurd (idle_token r s idle (end_of i slot) (way_of slot) v held)
  rest_step (Out b v) s t past idle closed does turn =
      let (c, there) = out_there r b v s t does in
      let passes = subst (λ (o : Option Contact). Passes r (Out b v) o s t) there does.1 in
      absurd (idle_token r s idle b (way_taken c.role) v passes.0)
  rest_step (In b v) s t past idle closed does turn =
      elim (in_turn_at r d runner gs node b v s t past does turn) [
        | inl (is, zero_is, shut, leads) ↦ (
          (λ l. In (is l) (zero_is l)),
          subst (λ (x : Tokens). HoldsOnly r (PartEnd d runner.run) Request 0 x) (sym leads)
              (held_beside r (ResultEnd 0) (PartEnd d runner.run) Request 0 (with_token r (ResultEnd 0) Request (Some 0) s)
              (result_place r d runner gs node ∙ sym (own_place r d runner gs node))
              (put_only r (ResultEnd 0) Request 0 s idle.0 idle.1 (ResultEnd 0) (result_place r d runner gs node))),
          subst (λ (e : End). OnlyResult (pass e (way_in (contact_at r e)) ∷ past)) (sym is)
              (ap is_request (result_in r (done r d runner gs node)), closed.1),
        )
        | inr (k, h, n, is, up, which) ↦ absurd (true_is_not_false (is_open past (ImportEnd k n)) up (closed.1 k n))
      ]

  -- an input while the result alone is open
  no_input : (b : End) (v : ℕ) (s t : Tokens) (past : List Pass) → OnlyResult past → Does r (In b v) s t → KeepsTurns r past (pass b (way_in (contact_at r b))) → ⊥
  no_input b v s t past only does turn =
      elim (in_turn_at r d runner gs node b v s t past does turn) [
        | inl (is, zero_is, shut, leads) ↦ true_is_not_false (is_open past (ResultEnd 0)) only.0 shut
        | inr (k, h, n, is, up, which) ↦ true_is_not_false (is_open past (ImportEnd k n)) up (only.1 k n)
      ]

  -- what fires while a token lies on the result's joint alone
  pub own_slot : (i : ℕ) (slot : Slot) (way : Direction) → way_of slot ≡ way → places_of r (end_of i slot) ≡ Some (ResultEnd 0)
      → (i ≡ d) × (shake_of slot ≡ runner.run)
  own_slot i slot way same named =
      elim (at_own_joint r d runner gs node (end_of i slot) named) [
        | inl is ↦ (let clash : PartEnd i (shake_of slot) ≡ ResultEnd 0 = is in absurd (cc clash))
        | inr is ↦ (let both : PartEnd i (shake_of slot) ≡ PartEnd d runner.run = is in
            let part : i ≡ d = cc both in
            let shake : shake_of slot ≡ runner.run = cc both in (part, shake))
      ]

  -- what an output takes from the result's joint is an answer
  out_answer : (b : End) (v : ℕ) (way : Direction) (k : ℕ) (s t : Tokens) (e : End) → places_of r e ≡ Some (ResultEnd 0) → HoldsOnly r e way k s → Does r (Out b v) s t
      → (b ≡ ResultEnd 0) × (Answer ≡ way) × (v ≡ k) × (t ≡ with_token r (ResultEnd 0) Answer None s)
  out_answer b v way k s t e named holding does = (at_result, way_so, there.2, passes.1 ∙ (λ l. with_token r (at_result l) (sym taken_so l) None s))
    where
      c : (c : Contact) × (contact_at r b ≡ Some c)
      c = out_there r b v s t does

      passes : (token_at r s b (way_taken c.0.role) ≡ Some v) × (t ≡ with_token r b (way_taken c.0.role) None s)
      passes = subst (λ (o : Option Contact). Passes r (Out b v) o s t) c.1 does.1

      there : (way_taken c.0.role ≡ way) × (places_of r b ≡ places_of r e) × (v ≡ k)
      there = only_there r e way k s holding b (way_taken c.0.role) v passes.0

      at_result : b ≡ ResultEnd 0
      at_result =
          elim (at_own_joint r d runner gs node b (there.1 ∙ named)) [
            | inl is ↦ is
            | inr is ↦ absurd (subst (λ (x : End). IsPortEnd x) is does.0)
          ]

      taken_so : Answer ≡ way_taken c.0.role
      taken_so =
          elim (port_end r (done r d runner gs node) b c.0 does.0 c.1) [
            | inl result ↦ ap way_taken (sym result.1)
            | inr import ↦ (let clash : ResultEnd 0 ≡ ImportEnd import.0 import.1 = sym at_result ∙ import.2 in absurd (cc clash))
          ]

      way_so : Answer ≡ way
      way_so = taken_so ∙ there.0

  -- a firing of the own part, from where its token is taken
  pub own_fired : (slot : Slot) (v : ℕ) (row : Row) (s t : Tokens) → firing_of (slice_get r.parts d) (s.state d) slot ≡ Some row → t ≡ fired r d row v s
      → (t ≡ with_puts r d (row.puts v) (with_state d (row.next v) (with_token r (end_of d slot) (way_of slot) None s))) × (firing runner.part (s.state d) slot ≡ Some row)
      × (t.state d ≡ row.next v)
  own_fired slot v row s t by leads = (
    leads
        ∙ ap (λ (x : Slot). with_puts r d (row.puts v) (with_state d (row.next v) (with_token r (end_of d x) (way_of x) None s)))
        (takes_of (slice_get r.parts d) (s.state d) slot row by),
    subst (λ (o : Option Part). firing_of o (s.state d) slot ≡ Some row) node.base.own by,
    ap (λ (x : Tokens). x.state d) leads
        ∙ (fired_state r d row v s d ∙ ap (λ (b : Bool). if b then row.next v else s.state d) (nat_eq_itself d)),
  )

  pub own_firing : (slot : Slot) (row : Row) (s : Tokens) → firing_of (slice_get r.parts d) (s.state d) slot ≡ Some row → firing runner.part (s.state d) slot ≡ Some row
  own_firing slot row s by = subst (λ (o : Option Part). firing_of o (s.state d) slot ≡ Some row) node.base.own by

  -- asked: the own part alone can fire
  pub record AskedStep (x : Element) (s t : Tokens) (past : List Pass) : Type 0 where
    pub row : Row
    pub is : x ≡ Fire d (Req runner.run)
    pub fires : firing runner.part (s.state d) (Req runner.run) ≡ Some row
    pub state : t.state d ≡ row.next 0
    pub empty : Emptied d (with_token r (PartEnd d runner.run) Request None s)
    pub by : firing_of (slice_get r.parts d) (s.state d) (Req runner.run) ≡ Some row
    pub leads : t ≡ fired r d row 0 s
    pub led : Led r d runner gs node row 0 t past

  pub asked_step : (x : Element) (s t : Tokens) (past : List Pass) → HoldsOnly r (PartEnd d runner.run) Request 0 s → OnlyResult past → Does r x s t → InputTurns r past x
      → AskedStep x s t (after r x past)
  asked_step (In b v) s t past holding only does turn = absurd (no_input b v s t past only does turn)
  asked_step (Out b v) s t past holding only does turn =
      let out = out_answer b v Request 0 s t (PartEnd d runner.run) (own_place r d runner gs node) holding does in
      let clash : Answer ≡ Request = out.1 in absurd (cc clash)
  asked_step (Fire i slot) s t past holding only (v, row, held, by, leads) turn =
      record {
        row = row;
        is = is;
        fires = fires;
        state = fired_own.2 ∙ ap row.next there.2;
        empty = empty;
        by = by_own;
        leads = leads ∙ (λ l. fired r (which.0 l) row (there.2 l) s);
        led = subst (λ (n : ℕ). Led r d runner gs node row n t past) there.2 led_on;
      }
    where
      there : (way_of slot ≡ Request) × (places_of r (end_of i slot) ≡ places_of r (PartEnd d runner.run)) × (v ≡ 0)
      there = only_there r (PartEnd d runner.run) Request 0 s holding (end_of i slot) (way_of slot) v held

      which : (i ≡ d) × (shake_of slot ≡ runner.run)
      which = own_slot i slot Request there.0 (there.1 ∙ own_place r d runner gs node)

      slot_is : slot ≡ Req runner.run
      slot_is = request_slot slot runner.run there.0 which.1

      is : Fire i slot ≡ Fire d (Req runner.run)
      is = λ l. Fire (which.0 l) (slot_is l)

      by_own : firing_of (slice_get r.parts d) (s.state d) (Req runner.run) ≡ Some row
      by_own = (λ l. firing_of (slice_get r.parts (sym which.0 l)) (s.state (sym which.0 l)) (sym slot_is l)) ∙ by

      fired_own : (t ≡ with_puts r d (row.puts v) (with_state d (row.next v) (with_token r (PartEnd d runner.run) Request None s)))
          × (firing runner.part (s.state d) (Req runner.run) ≡ Some row) × (t.state d ≡ row.next v)
      fired_own = own_fired (Req runner.run) v row s t by_own (leads ∙ ap (λ (n : ℕ). fired r n row v s) which.0)

      fires : firing runner.part (s.state d) (Req runner.run) ≡ Some row
      fires = fired_own.1

      at_rest : firing runner.part (at Rest (s.state d).number) (Req runner.run) ≡ Some row
      at_rest =
          ap (λ (p : Phase). firing runner.part (at p (s.state d).number) (Req runner.run)) (sym (holding.states d)) ∙ fires

      empty : Emptied d (with_token r (PartEnd d runner.run) Request None s)
      empty =
          record {
            places = taken_empty r (PartEnd d runner.run) Request 0 s holding;
            states = λ n apart. ap (λ (q : State). q.phase) (token_state r (PartEnd d runner.run) Request None s n) ∙ holding.states n;
          }

      led_on : Led r d runner gs node row v t past
      led_on =
          own_leads r d runner gs node (with_token r (PartEnd d runner.run) Request None s) t row v past empty fired_own.0 only
          (subst (λ (n : ℕ). LeadsOn runner gs (row.next n) (row.puts n)) (sym there.2) (node.table.begins (s.state d).number row at_rest))

  -- answered: the answer alone can go out
  pub answer_step : (k : ℕ) (x : Element) (s t : Tokens) (past : List Pass) → HoldsOnly r (ResultEnd 0) Answer k s → OnlyResult past → Does r x s t → InputTurns r past x
      → (x ≡ Out (ResultEnd 0) k) × IsIdle r t × NoneOpen (after r x past)
  answer_step k (In b v) s t past holding only does turn = absurd (no_input b v s t past only does turn)
  answer_step k (Fire i slot) s t past holding only (v, row, held, by, leads) turn =
      elim (node.table.no_other (s.state d) (Ans runner.run) row by_own) [
        | inl (resting, is) ↦ (let clash : Ans runner.run ≡ Req runner.run = is in absurd (cc clash))
        | inr (h, is, asked) ↦ absurd (node.table.none_at_rest (s.state d) h (holding.states d) is)
      ]
    where
      there : (way_of slot ≡ Answer) × (places_of r (end_of i slot) ≡ places_of r (ResultEnd 0)) × (v ≡ k)
      there = only_there r (ResultEnd 0) Answer k s holding (end_of i slot) (way_of slot) v held

      which : (i ≡ d) × (shake_of slot ≡ runner.run)
      which = own_slot i slot Answer there.0 (there.1 ∙ result_place r d runner gs node)

      slot_is : slot ≡ Ans runner.run
      slot_is = answer_slot slot runner.run there.0 which.1

      by_own : firing runner.part (s.state d) (Ans runner.run) ≡ Some row
      by_own =
          subst (λ (o : Option Part). firing_of o (s.state d) (Ans runner.run) ≡ Some row) node.base.own
          ((λ l. firing_of (slice_get r.parts (sym which.0 l)) (s.state (sym which.0 l)) (sym slot_is l)) ∙ by)
  answer_step k (Out b v) s t past holding only does turn = (
    (λ l. Out (out.0 l) (out.2 l)),
    (
      (λ way e. ap (λ (x : Tokens). x.in_place way e) out.3 ∙ taken_empty r (ResultEnd 0) Answer k s holding way e),
      (λ i. ap (λ (x : Tokens). (x.state i).phase) out.3 ∙ (ap (λ (q : State). q.phase) (token_state r (ResultEnd 0) Answer None s i) ∙ holding.states i)),
    ),
    subst (λ (e : End). NoneOpen (pass e (way_out (contact_at r e)) ∷ past)) (sym out.0) (ap is_request (result_out r (done r d runner gs node)), only.1),
  )
    where
      out : (b ≡ ResultEnd 0) × (Answer ≡ Answer) × (v ≡ k) × (t ≡ with_token r (ResultEnd 0) Answer None s)
      out = out_answer b v Answer k s t (ResultEnd 0) (result_place r d runner gs node) holding does
