-- What an element of a block is: one of the body, or one of the server.
--
-- The last result is `step`: each element that is possible is of one of seven sorts (`Step`), and of each it is said what the body
-- and the server make of it. What of the variable waits for an answer stands in a joint (`Kept`), so the server's answers reach the body;
-- where it asks at an end in no joint the request is lost in both.
use Rattle.std.specs.Prelude.{◌≡◌, ◌⊎◌, ◌<◌, ◌^◌, ℕ, suc, Bool, true, false, [], ◌∷◌, ◌++◌, Option, Some, None, All, nat_eq, not, slice_get, if◌then◌else◌}
use Rattle.std.proofs.Common.{arith, refl, sym, ap, subst, inl, inr, ◌∙◌}
use Rattle.std.proofs.lemmas.Option.{same_Some}
use Rattle.std.proofs.lemmas.Bool.{eqb-true}
use Rattle.gos_types.specs.declared.shakes.Role.{Role}
use Rattle.gos_types.specs.declared.shakes.Role.TheVariants.{Serve, Ask}
use Rattle.gos_types.specs.Events.{Direction, Request, Answer}
use Rattle.gos_plan.specs.Kinds.{Part, Contact, asks, contacts_of}
use Rattle.gos_plan.specs.Firing.{Rest, State, Slot, Req, Ans, Row, firing}
use Rattle.gos_plan.specs.Plans.{End, PartEnd, ImportEnd, ResultEnd, Plan, contact_at}
use Rattle.gos_plan.specs.Tokens.{Tokens, Element, Fire, Out, In, places_of, held_at, with_held, token_at, with_token, with_state, end_of, shake_of, way_of, bits_of, firing_of, fired, way_taken, way_put, Passes, Does, Runs, IsIdle}
use Rattle.gos_plan.specs.TokenBits.{LiteralFits, AllFit}
use Rattle.gos_plan.proofs.JointLemmas.{found, which_end}
use Rattle.gos_plan.proofs.HeldLemmas.{nothing_there}
use Rattle.gos_plan.proofs.TokenBitsLemmas.{all_stay_fit, idle_fits}
use Rattle.gos_plan.proofs.TurnLemmas.{token_state}
use Rattle.gos_plan.proofs.ElementLemmas.{firing_part}
use Rattle.gos_nodes.specs.sessions.Sessions.{bits}
use Rattle.gos_joining.specs.webs.Cutting.{StandsIn, cut_tokens, out_if, in_if, ins_of, firing_in, outside_firing}
use Rattle.gos_joining.proofs.webs.MovedLemmas.{listed}
use Rattle.gos_joining.proofs.webs.CutLemmas.{Owns, token_lost, fire_cut, element_is_cut}
use Rattle.gos_realises.specs.realises.Regular.{is_request}
use Rattle.gos_nodes.specs.parallel.Parallel.{IsPartOf}
use Rattle.gos_nodes.proofs.parallel.HungLemmas.{IsHung, Local, fires, puts_out, takes_in, Unseen, Sees, one_sees, result_put, is_asked, is_answered, state_unseen, not_driver, not_its_import}
use Rattle.gos_nodes.proofs.parallel.GateLemmas.{gate, Same, IsRun, passes_out, passes_in, there_contact, first_shake, result_gate, part_gate, gate_apart, gate_taken, gate_left, gate_filled, gate_beside, new_state, kept_state, fired_same, port_same}
use Rattle.gos_nodes.proofs.windows.AskedLemmas.{done_contact}
use Rattle.gos_nodes.specs.blocks.Servers.{run_of, after_pass, begin_row, serve_row, end_row, Serves, ServerRow, begins, serves_one, ends}
use Rattle.gos_nodes.specs.blocks.Block.{Block, IsBlock}
use Rattle.gos_nodes.proofs.blocks.ServerLemmas.{not_run}
use Rattle.gos_nodes.proofs.blocks.RegionLemmas as region
use Rattle.gos_nodes.proofs.blocks.RegionLemmas.{port, IsPort}

-- the body puts a token at a handshake of its variable, and at once one comes in, there or at another
abbrev pub Served : Plan → Block → ℕ → ℕ → ℕ → ℕ → Tokens → Tokens → Type 0
Served r b h a j n s t =
    Runs b.body (Out (ImportEnd b.place h) a ∷ In (ImportEnd b.place j) n ∷ []) (cut_tokens b.cut b.body s) (cut_tokens b.cut b.body t)

-- the server takes a token by this row
abbrev pub Took : Plan → Block → Slot → Row → Tokens → Type 0
Took r b slot row s = firing_of (slice_get r.parts b.own) (s.state b.own) slot ≡ Some row

-- the server is run, and asks the body
pub record Starts (r : Plan) (b : Block) (s t : Tokens) : Type 0 where
  pub value : ℕ
  pub next : ℕ → State
  pub took : Took r b (Req (run_of b.server)) (begin_row b.server next) s
  pub sees : Sees b.cut b.body (In (ResultEnd 0) 0) s t
  pub rest : (s.state b.own).phase ≡ Rest
  pub ask : gate s Request ≡ Some value
  pub state : t.state b.own ≡ next value
  pub runs : b.server.runs (t.state b.own).phase ≡ true
  pub closed : (h : ℕ) → b.server.opened (t.state b.own) h ≡ false
  pub none : gate t Request ≡ None
  pub ans : gate t Answer ≡ gate s Answer

-- it serves the variable
pub record Supplies (r : Plan) (b : Block) (slot : Slot) (s t : Tokens) : Type 0 where
  pub value : ℕ
  pub row : Row
  pub serves : Serves b.server (s.state b.own) slot row
  pub took : Took r b slot row s
  pub stands : StandsIn b.body (ImportEnd b.place serves.at)
  pub answered : serves.given.role ≡ Serve → StandsIn b.body (ImportEnd b.place serves.back)
  pub served : Served r b serves.at value serves.back (serves.number value) s t
  pub state : t.state b.own ≡ serves.next value
  pub gates : (way : Direction) → gate t way ≡ gate s way

-- the body ends, and with it the server
pub record Ends (r : Plan) (b : Block) (s t : Tokens) : Type 0 where
  pub value : ℕ
  pub next : ℕ → State
  pub took : Took r b (Ans 0) (end_row b.server next) s
  pub sees : Sees b.cut b.body (Out (ResultEnd 0) value) s t
  pub runs : b.server.runs (s.state b.own).phase ≡ true
  pub closed : (h : ℕ) → b.server.opened (s.state b.own) h ≡ false
  pub state : t.state b.own ≡ next value
  pub rest : (t.state b.own).phase ≡ Rest
  pub ask : gate t Request ≡ gate s Request
  pub ans : gate t Answer ≡ Some value

pub data Step (r : Plan) (b : Block) : Element → Tokens → Tokens → Type 0 where
  of_body : (x y : Element) (s t : Tokens) → Local b.cut r b.body x y → Sees b.cut b.body y s t → Same b.own s t → Step r b x s t
  asked :
      (v : ℕ) (s t : Tokens) → v ≡ 0 → Unseen b.cut b.body s t → t.state b.own ≡ s.state b.own → gate t Request ≡ Some v
      → gate t Answer ≡ gate s Answer → Step r b (In (ResultEnd 0) v) s t
  told :
      (v : ℕ) (s t : Tokens) → Unseen b.cut b.body s t → t.state b.own ≡ s.state b.own → gate s Answer ≡ Some v → gate t Answer ≡ None
      → gate t Request ≡ gate s Request → Step r b (Out (ResultEnd 0) v) s t
  starts : (s t : Tokens) → Starts r b s t → Step r b (Fire b.own (Req (run_of b.server))) s t
  supplies : (slot : Slot) (s t : Tokens) → Supplies r b slot s t → Step r b (Fire b.own slot) s t
  ended : (s t : Tokens) → Ends r b s t → Step r b (Fire b.own (Ans 0)) s t
  lost :
      (j k v : ℕ) (s t : Tokens) (c : Contact) → contact_at r (ImportEnd j k) ≡ Some c → b.cut.inner (ImportEnd j k) ≡ None
      → Unseen b.cut b.body s t → Same b.own s t → Step r b (In (ImportEnd j k) v) s t

-- it is seen by the body or by the part: no input at an end without a joint
abbrev pub IsSeen : (r : Plan) (b : Block) (x : Element) (s t : Tokens) → Step r b x s t → Type 0
IsSeen r b x s t (lost j k v s' t' c there none unseen same) = ⊥
IsSeen r b x s t z = Unit {0}

-- the handshakes of the variable at which the body waits for an answer stand in joints of it
abbrev pub Kept : Block → Tokens → Type 0
Kept b s =
    (h : ℕ) (c : Contact)
    → slice_get (contacts_of b.server.supply) h ≡ Some c → c.role ≡ Serve → b.server.opened (s.state b.own) h ≡ true → StandsIn b.body (ImportEnd b.place h)

-- what holds all along a list
pub record Sound (r : Plan) (b : Block) (s : Tokens) : Type 0 where
  pub fit : AllFit r s
  pub kept : Kept b s

module _ (r : Plan) (b : Block) (is : IsBlock r b) where
  -- the result runs the server
  pub is_run : IsRun r b.own (run_of b.server)
  is_run = record { right = is.cut.whole_right; there = is.run }

  -- the body hangs on it
  hung : IsHung (IsPort b) b.own 0 (bits r.outcome) b.cut r b.body
  hung = region.hung_body r b is

  pub own_state : (c : State) (s : Tokens) → cut_tokens b.cut b.body (with_state b.own c s) ≡ cut_tokens b.cut b.body s
  own_state = state_unseen hung b.own is.outside

  run_lost : (way : Direction) (held : Option ℕ) (s : Tokens) → cut_tokens b.cut b.body (with_token r (PartEnd b.own (run_of b.server)) way held s) ≡ cut_tokens b.cut b.body s
  run_lost = region.part_unseen r b is b.own (run_of b.server) is.outside (region.run_unseen r b is)

  zero_not_run : 0 ≡ run_of b.server → ⊥
  zero_not_run e = omega (arith, e)

  -- the rows of the server
  pub own_firing : (slot : Slot) (row : Row) (s : Tokens) → firing b.server.part (s.state b.own) slot ≡ Some row → Took r b slot row s
  own_firing slot row s by = ap (λ (o : Option Part). firing_of o (s.state b.own) slot) is.own ∙ by

  pub firing_own : (slot : Slot) (row : Row) (s : Tokens) → Took r b slot row s → firing b.server.part (s.state b.own) slot ≡ Some row
  firing_own slot row s took = sym (ap (λ (o : Option Part). firing_of o (s.state b.own) slot) is.own) ∙ took

  -- it begins
  begun : (v : ℕ) (next : ℕ → State) (s : Tokens) → (s.state b.own).phase ≡ Rest → token_at r s (PartEnd b.own (run_of b.server)) Request ≡ Some v
      → Took r b (Req (run_of b.server)) (begin_row b.server next) s → b.server.runs (next v).phase ≡ true → ((h : ℕ) → b.server.opened (next v) h ≡ false)
      → Step r b (Fire b.own (Req (run_of b.server))) s (fired r b.own (begin_row b.server next) v s)
  begun v next s rest lies took runs closed =
      starts s u2
      (record {
        value = v;
        next = next;
        took = took;
        sees = sees;
        rest = rest;
        ask = sym (ap (held_at s Request) (part_gate is_run)) ∙ lies;
        state = state;
        runs = ap (λ (c : State). b.server.runs c.phase) state ∙ runs;
        closed = λ h. ap (λ (c : State). b.server.opened c h) state ∙ closed h;
        none = gate_apart is_run 0 zero_not_run Request (Some 0) u1 Request ∙ gate_taken is_run s;
        ans = gate_apart is_run 0 zero_not_run Request (Some 0) u1 Answer ∙ gate_left is_run s;
      })
    where
      u0 : Tokens
      u0 = with_token r (PartEnd b.own (run_of b.server)) Request None s

      u1 : Tokens
      u1 = with_state b.own (next v) u0

      u2 : Tokens
      u2 = with_token r (PartEnd b.own 0) Request (Some 0) u1

      state : u2.state b.own ≡ next v
      state = kept_state is_run 0 Request (Some 0) u1 ∙ new_state is_run (next v) u0

      sees : Sees b.cut b.body (In (ResultEnd 0) 0) s u2
      sees =
          is_asked hung s u2
          (result_put hung Request (Some 0) u1
          ∙ ap (with_token b.body (ResultEnd 0) Request (Some 0)) (own_state (next v) u0 ∙ run_lost Request None s))

  -- the body ends
  finished : (v : ℕ) (next : ℕ → State) (s : Tokens) → b.server.runs (s.state b.own).phase ≡ true → token_at r s (PartEnd b.own 0) Answer ≡ Some v
      → Took r b (Ans 0) (end_row b.server next) s → (next v).phase ≡ Rest → ((h : ℕ) → b.server.opened (s.state b.own) h ≡ false)
      → Step r b (Fire b.own (Ans 0)) s (fired r b.own (end_row b.server next) v s)
  finished v next s runs lies took rest closed =
      ended s u2
      (record {
        value = v;
        next = next;
        took = took;
        sees = sees;
        runs = runs;
        closed = closed;
        state = state;
        rest = ap (λ (c : State). c.phase) state ∙ rest;
        ask = gate_beside is_run v u1 ∙ gate_apart is_run 0 zero_not_run Answer None s Request;
        ans = gate_filled is_run v u1;
      })
    where
      u0 : Tokens
      u0 = with_token r (PartEnd b.own 0) Answer None s

      u1 : Tokens
      u1 = with_state b.own (next v) u0

      u2 : Tokens
      u2 = with_token r (PartEnd b.own (run_of b.server)) Answer (Some v) u1

      state : u2.state b.own ≡ next v
      state = kept_state is_run (run_of b.server) Answer (Some v) u1 ∙ new_state is_run (next v) u0

      sees : Sees b.cut b.body (Out (ResultEnd 0) v) s u2
      sees =
          is_answered hung v s u2 lies
          (run_lost Answer (Some v) u1 ∙ (own_state (next v) u0 ∙ result_put hung Answer None s))

  -- the body stands at the end at which the server takes a token
  pub stands_at : (h v : ℕ) (way : Direction) (s : Tokens) → (h ≡ run_of b.server → ⊥) → token_at r s (PartEnd b.own h) way ≡ Some v → Owns b.body (port b h)
  stands_at h v way s apart lies = by_place (places_of r (PartEnd b.own h)) refl
    where
      by_place : (o : Option End) → places_of r (PartEnd b.own h) ≡ o → Owns b.body (port b h)
      by_place None none = absurd (nothing_there r (PartEnd b.own h) way v s lies none)
      by_place (Some a) named = region.joined_port r b is h apart a named

  inner_port : (h : ℕ) → StandsIn b.body (ImportEnd b.place h) → b.cut.inner (PartEnd b.own (suc h)) ≡ Some (ImportEnd b.place h)
  inner_port h stands = ap b.cut.inner (sym (is.served h)) ∙ (is.cut.ports (ImportEnd b.place h) tt stands).1

  -- an import of the whole that stands in a joint is the body's
  nowhere : (j k : ℕ) → b.cut.inner (ImportEnd j k) ≡ None → places_of r (ImportEnd j k) ≡ None
  nowhere j k out = by_place (places_of r (ImportEnd j k)) refl
    where
      by_place : (o : Option End) → places_of r (ImportEnd j k) ≡ o → o ≡ None
      by_place None e = refl
      by_place (Some a) e =
          let there = found r.joints (ImportEnd j k) a e in
          let which = which_end (ImportEnd j k) there.joint there.stands in
          absurd (elim (is.joints there.joint.asking there.joint.serving (listed r.joints there.joint there.is_in)) [
            | inl own ↦ not_its_import hung j k out there.joint.asking there.joint.serving own which
            | inr run ↦
                elim which [
                  | inl one ↦ let bad : ImportEnd j k ≡ ResultEnd 0 = one ∙ run.0 in cc bad
                  | inr one ↦ let bad : ImportEnd j k ≡ PartEnd b.own (run_of b.server) = one ∙ run.1 in cc bad
                ]
          ])

  -- what passes the result
  result_unseen : (way : Direction) (held : Option ℕ) (s : Tokens)
      → cut_tokens b.cut b.body (with_token r (ResultEnd 0) way held s) ≡ cut_tokens b.cut b.body s
  result_unseen way held s = token_lost b.cut r b.body is.cut (ResultEnd 0) (region.no_inner_result r b is 0) way held s

  result_out : (v : ℕ) (s t : Tokens) → Does r (Out (ResultEnd 0) v) s t → Step r b (Out (ResultEnd 0) v) s t
  result_out v s t (port', passes) =
      let here = subst (λ (o : Option Contact). Passes r (Out (ResultEnd 0) v) o s t) (done_contact r.outcome is.done) passes in
      told v s t (ap (cut_tokens b.cut b.body) here.1 ∙ result_unseen Answer None s)
      (ap (λ (u : Tokens). u.state b.own) here.1 ∙ token_state r (ResultEnd 0) Answer None s b.own) (sym (ap (held_at s Answer) (result_gate is_run)) ∙ here.0)
      (ap (λ (u : Tokens). gate u Answer) here.1 ∙ ap (λ o. gate (with_held Answer o None s) Answer) (result_gate is_run))
      (ap (λ (u : Tokens). gate u Request) here.1 ∙ ap (λ o. gate (with_held Answer o None s) Request) (result_gate is_run))

  result_in : (v : ℕ) (s t : Tokens) → Does r (In (ResultEnd 0) v) s t → Step r b (In (ResultEnd 0) v) s t
  result_in v s t (port', passes) =
      let here = subst (λ (o : Option Contact). Passes r (In (ResultEnd 0) v) o s t) (done_contact r.outcome is.done) passes in
      let small : v < 1 = here.0 in
      asked v s t (omega (arith, small)) (ap (cut_tokens b.cut b.body) here.1 ∙ result_unseen Request (Some v) s)
      (ap (λ (u : Tokens). u.state b.own) here.1 ∙ token_state r (ResultEnd 0) Request (Some v) s b.own)
      (ap (λ (u : Tokens). gate u Request) here.1 ∙ ap (λ o. gate (with_held Request o (Some v) s) Request) (result_gate is_run))
      (ap (λ (u : Tokens). gate u Answer) here.1 ∙ ap (λ o. gate (with_held Request o (Some v) s) Answer) (result_gate is_run))

  module _ (literals : All LiteralFits r.parts) where
    -- what the body sees of a firing of the part
    body_sees : (slot : Slot) (row : Row) (v : ℕ) (s : Tokens) → AllFit r s → token_at r s (end_of b.own slot) (way_of slot) ≡ Some v
        → firing_of (slice_get r.parts b.own) (s.state b.own) slot ≡ Some row
        → Runs b.body (out_if (b.cut.inner (end_of b.own slot)) v ++ ins_of b.cut b.own (row.puts v)) (cut_tokens b.cut b.body s)
        (cut_tokens b.cut b.body (fired r b.own row v s))
    body_sees slot row v s fit lies by =
        subst (λ (o : Option Row). Runs b.body (outside_firing b.cut b.own slot (Some v) o) (cut_tokens b.cut b.body s) (cut_tokens b.cut b.body (fired r b.own row v s))) by
        (subst (λ (o : Option ℕ).
        Runs b.body (outside_firing b.cut b.own slot o (firing_of (slice_get r.parts b.own) (s.state b.own) slot)) (cut_tokens b.cut b.body s)
        (cut_tokens b.cut b.body (fired r b.own row v s))) lies
        (subst (λ (o : Option ℕ).
        Runs b.body
        (firing_in b.cut b.own slot o
        (outside_firing b.cut b.own slot (token_at r s (end_of b.own slot) (way_of slot)) (firing_of (slice_get r.parts b.own) (s.state b.own) slot)))
        (cut_tokens b.cut b.body s) (cut_tokens b.cut b.body (fired r b.own row v s))) is.outside
        (element_is_cut b.cut r b.body (Fire b.own slot) s (fired r b.own row v s) is.cut literals fit (v, row, lies, by, refl))))

    supplied : (slot : Slot) (v : ℕ) (row : Row) (s : Tokens) → Sound r b s → Serves b.server (s.state b.own) slot row
        → token_at r s (end_of b.own slot) (way_of slot) ≡ Some v → Took r b slot row s → Step r b (Fire b.own slot) s (fired r b.own row v s)
    supplied slot v row s sound e lies took =
        supplies slot s (fired r b.own row v s)
        (record {
          value = v;
          row = row;
          serves = e;
          took = took;
          stands = stands;
          answered = answered;
          served = subst (λ (x : Row). Served r b e.at v e.back (e.number v) s (fired r b.own x v s)) (sym e.is_row) served;
          state = subst (λ (x : Row). (fired r b.own x v s).state b.own ≡ e.next v) (sym e.is_row) state;
          gates = λ way. subst (λ (x : Row). gate (fired r b.own x v s) way ≡ gate s way) (sym e.is_row) (gates way);
        })
      where
        row_is : Row
        row_is = serve_row slot e.reply e.number e.next

        u0 : Tokens
        u0 = with_token r (end_of b.own slot) (way_of slot) None s

        u1 : Tokens
        u1 = with_state b.own (e.next v) u0

        slot_apart : shake_of slot ≡ run_of b.server → ⊥
        slot_apart = not_run b.server (bits r.outcome) is.server (shake_of slot) e.at e.taken e.at_there e.takes_at

        reply_apart : shake_of e.reply ≡ run_of b.server → ⊥
        reply_apart = not_run b.server (bits r.outcome) is.server (shake_of e.reply) e.back e.given e.back_there e.puts_at

        stands : StandsIn b.body (ImportEnd b.place e.at)
        stands =
            subst (λ (h : ℕ). Owns b.body (port b h)) e.takes_at (stands_at (shake_of slot) v (way_of slot) s slot_apart lies)

        answered : e.given.role ≡ Serve → StandsIn b.body (ImportEnd b.place e.back)
        answered serves = by_test (nat_eq e.at e.back) refl (e.turn ∙ ap (λ (x : Role). not (is_request (way_put x))) serves)
          where
            by_test : (t : Bool) → nat_eq e.at e.back ≡ t
                → (if t then is_request (way_taken e.taken.role) else b.server.opened (s.state b.own) e.back) ≡ true → StandsIn b.body (ImportEnd b.place e.back)
            by_test true same up =
                let one : e.at ≡ e.back = eqb-true e.at e.back same in subst (λ (h : ℕ). StandsIn b.body (ImportEnd b.place h)) one stands
            by_test false apart up = sound.kept e.back e.given e.back_there serves up

        inner_slot : b.cut.inner (end_of b.own slot) ≡ Some (ImportEnd b.place e.at)
        inner_slot = ap (λ (h : ℕ). b.cut.inner (PartEnd b.own h)) e.takes_at ∙ inner_port e.at stands

        inner_reply : b.cut.inner (end_of b.own e.reply) ≡ b.cut.inner (PartEnd b.own (suc e.back))
        inner_reply = ap (λ (h : ℕ). b.cut.inner (PartEnd b.own h)) e.puts_at

        -- what the body sees of it, where the reply lies behind this end
        body_runs : (o : Option End) → b.cut.inner (PartEnd b.own (suc e.back)) ≡ o
            → Runs b.body (Out (ImportEnd b.place e.at) v ∷ (in_if o (e.number v) ++ [])) (cut_tokens b.cut b.body s) (cut_tokens b.cut b.body (fired r b.own row_is v s))
        body_runs o inner =
            subst (λ (o : Option End).
            Runs b.body (Out (ImportEnd b.place e.at) v ∷ (in_if o (e.number v) ++ [])) (cut_tokens b.cut b.body s) (cut_tokens b.cut b.body (fired r b.own row_is v s))) (inner_reply ∙ inner)
            (subst (λ (o : Option End).
            Runs b.body (out_if o v ++ (in_if (b.cut.inner (end_of b.own e.reply)) (e.number v) ++ [])) (cut_tokens b.cut b.body s)
            (cut_tokens b.cut b.body (fired r b.own row_is v s))) inner_slot
            (body_sees slot row_is v s sound.fit lies (took ∙ ap Some e.is_row)))

        -- a request at an end in no joint is lost
        lost_runs : places_of b.body (ImportEnd b.place e.back) ≡ None → e.given.role ≡ Ask
            → Runs b.body (Out (ImportEnd b.place e.at) v ∷ []) (cut_tokens b.cut b.body s) (cut_tokens b.cut b.body (fired r b.own row_is v s))
            → Served r b e.at v e.back (e.number v) s (fired r b.own row_is v s)
        lost_runs none asks (a, out, same) = (a, out, (cut_tokens b.cut b.body (fired r b.own row_is v s), does, refl))
          where
            here : (e.number v < 2 ^ bits_of e.given (way_put e.given.role))
                × (cut_tokens b.cut b.body (fired r b.own row_is v s) ≡ with_token b.body (ImportEnd b.place e.back) (way_put e.given.role) (Some (e.number v)) a)
            here = (
              subst (λ (x : Role). e.number v < 2 ^ bits_of e.given (way_put x)) (sym asks) (e.fits v asks),
              same ∙ sym (ap (λ (o : Option End). with_held (way_put e.given.role) o (Some (e.number v)) a) none),
            )

            does : Does b.body (In (ImportEnd b.place e.back) (e.number v)) a (cut_tokens b.cut b.body (fired r b.own row_is v s))
            does = (
              tt,
              subst (λ (o : Option Contact). Passes b.body (In (ImportEnd b.place e.back) (e.number v)) o a (cut_tokens b.cut b.body (fired r b.own row_is v s)))
                  (sym (region.variable_contact r b is e.back ∙ e.back_there)) here,
            )

        served : Served r b e.at v e.back (e.number v) s (fired r b.own row_is v s)
        served = by_role e.given.role refl
          where
            joined : StandsIn b.body (ImportEnd b.place e.back) → Served r b e.at v e.back (e.number v) s (fired r b.own row_is v s)
            joined standing = body_runs (Some (ImportEnd b.place e.back)) (inner_port e.back standing)

            by_place : (o : Option End) → places_of b.body (ImportEnd b.place e.back) ≡ o → e.given.role ≡ Ask
                → Served r b e.at v e.back (e.number v) s (fired r b.own row_is v s)
            by_place None none asks = lost_runs none asks (body_runs None (region.no_inner_port r b is (suc e.back) none))
            by_place (Some a) named asks =
                let at = found b.body.joints (ImportEnd b.place e.back) a named in joined (at.joint, listed b.body.joints at.joint at.is_in, at.stands)

            by_role : (role : Role) → e.given.role ≡ role → Served r b e.at v e.back (e.number v) s (fired r b.own row_is v s)
            by_role Serve serves = joined (answered serves)
            by_role Ask asks = by_place (places_of b.body (ImportEnd b.place e.back)) refl asks

        state : (fired r b.own row_is v s).state b.own ≡ e.next v
        state = kept_state is_run (shake_of e.reply) (way_of e.reply) (Some (e.number v)) u1 ∙ new_state is_run (e.next v) u0

        gates : (way : Direction) → gate (fired r b.own row_is v s) way ≡ gate s way
        gates way =
            gate_apart is_run (shake_of e.reply) reply_apart (way_of e.reply) (Some (e.number v)) u1 way ∙ gate_apart is_run (shake_of slot) slot_apart (way_of slot) None s way

    server_step : (slot : Slot) (s t : Tokens) → Sound r b s → Does r (Fire b.own slot) s t → Step r b (Fire b.own slot) s t
    server_step slot s t sound (v, row, held, by, leads) =
        subst (λ (u : Tokens). Step r b (Fire b.own slot) s u) (sym leads) (by_row (is.server.rows (s.state b.own) slot row (firing_own slot row s by)))
      where
        Made : Slot → Row → Type 0
        Made c w = token_at r s (end_of b.own c) (way_of c) ≡ Some v → Took r b c w s → Step r b (Fire b.own c) s (fired r b.own w v s)

        done : (c : Slot) (w : Row) → slot ≡ c → row ≡ w → Made c w → Step r b (Fire b.own slot) s (fired r b.own row v s)
        done c w same is_w make =
            subst (λ (x : Slot). Made x row) (sym same) (subst (λ (x : Row). Made c x) (sym is_w) make) held by

        by_row : ServerRow b.server (s.state b.own) slot row → Step r b (Fire b.own slot) s (fired r b.own row v s)
        by_row (begins next rest same is_w runs closed) =
            done (Req (run_of b.server)) (begin_row b.server next) same is_w (λ lies took. begun v next s rest lies took (runs v) (closed v))
        by_row (serves_one e) = supplied slot v row s sound e held by
        by_row (ends next runs same is_w rest closed) =
            done (Ans 0) (end_row b.server next) same is_w (λ lies took. finished v next s runs lies took (rest v) closed)

    fire_step : (i : ℕ) (slot : Slot) (s t : Tokens) → Sound r b s → Does r (Fire i slot) s t → Step r b (Fire i slot) s t
    fire_step i slot s t sound does =
        let part = firing_part (slice_get r.parts i) (s.state i) slot does.1 does.3 in by_part (is.parts i part.0 part.1)
      where
        by_part : IsPartOf b.cut i ⊎ (i ≡ b.own) → Step r b (Fire i slot) s t
        by_part (inl (j, number)) =
            of_body (Fire i slot) (Fire j slot) s t (fires i j slot number) (fire_cut b.cut r b.body is.cut j i number slot s t does)
            (fired_same is_run i (not_driver hung i (j, number)) does.1 does.0 s t does.4)
        by_part (inr same) =
            subst (λ (n : ℕ). Step r b (Fire n slot) s t) (sym same)
            (server_step slot s t sound (subst (λ (n : ℕ). Does r (Fire n slot) s t) same does))

    -- and what passes an import
    out_step : (j k v : ℕ) (s t : Tokens) → AllFit r s → Does r (Out (ImportEnd j k) v) s t → Step r b (Out (ImportEnd j k) v) s t
    out_step j k v s t fit does = by_inner (b.cut.inner (ImportEnd j k)) refl
      where
        x : Element
        x = Out (ImportEnd j k) v

        same : Same b.own s t
        same =
            let leads = passes_out r (ImportEnd j k) v s t does in
            port_same is_run (ImportEnd j k) leads.0 None s t (λ e. cc e) (λ e. cc e) leads.1

        runs : (o : Option End) → b.cut.inner (ImportEnd j k) ≡ o → Runs b.body (out_if o v) (cut_tokens b.cut b.body s) (cut_tokens b.cut b.body t)
        runs o e =
            subst (λ o. Runs b.body (out_if o v) (cut_tokens b.cut b.body s) (cut_tokens b.cut b.body t)) e
            (element_is_cut b.cut r b.body x s t is.cut literals fit does)

        by_inner : (o : Option End) → b.cut.inner (ImportEnd j k) ≡ o → Step r b x s t
        by_inner None none =
            let (c, there) = there_contact r x (contact_at r (ImportEnd j k)) s t does.1 in
            let here = subst (λ (o : Option Contact). Passes r x o s t) there does.1 in
            absurd (nothing_there r (ImportEnd j k) (way_taken c.role) v s here.0 (nowhere j k none))
        by_inner (Some e) inner =
            let (i, is_e, apart, stands, leads, imports) = region.import_inner r b is j k e inner in
            of_body x (Out (ImportEnd i k) v) s t (puts_out i j k v stands leads imports)
            (one_sees b.cut b.body (Out (ImportEnd i k) v) s t (runs (Some (ImportEnd i k)) (inner ∙ ap Some is_e))) same

    in_step : (j k v : ℕ) (s t : Tokens) → AllFit r s → Does r (In (ImportEnd j k) v) s t → Step r b (In (ImportEnd j k) v) s t
    in_step j k v s t fit does = by_inner (b.cut.inner (ImportEnd j k)) refl
      where
        x : Element
        x = In (ImportEnd j k) v

        same : Same b.own s t
        same =
            let leads = passes_in r (ImportEnd j k) v s t does in
            port_same is_run (ImportEnd j k) leads.0 (Some v) s t (λ e. cc e) (λ e. cc e) leads.1

        runs : (o : Option End) → b.cut.inner (ImportEnd j k) ≡ o → Runs b.body (in_if o v) (cut_tokens b.cut b.body s) (cut_tokens b.cut b.body t)
        runs o e =
            subst (λ o. Runs b.body (in_if o v) (cut_tokens b.cut b.body s) (cut_tokens b.cut b.body t)) e
            (element_is_cut b.cut r b.body x s t is.cut literals fit does)

        by_inner : (o : Option End) → b.cut.inner (ImportEnd j k) ≡ o → Step r b x s t
        by_inner None none =
            let (c, there) = there_contact r x (contact_at r (ImportEnd j k)) s t does.1 in lost j k v s t c there none (runs None none) same
        by_inner (Some e) inner =
            let (i, is_e, apart, stands, leads, imports) = region.import_inner r b is j k e inner in
            of_body x (In (ImportEnd i k) v) s t (takes_in i j k v stands leads imports)
            (one_sees b.cut b.body (In (ImportEnd i k) v) s t (runs (Some (ImportEnd i k)) (inner ∙ ap Some is_e))) same

    pub step : (x : Element) (s t : Tokens) → Sound r b s → Does r x s t → Step r b x s t
    step (Fire i slot) s t sound does = fire_step i slot s t sound does
    step (Out (PartEnd i k) v) s t sound does = absurd does.0
    step (Out (ImportEnd j k) v) s t sound does = out_step j k v s t sound.fit does
    step (Out (ResultEnd k) v) s t sound does =
        let none = first_shake r is.done k (Out (ResultEnd k) v) s t does.1 in
        subst (λ (n : ℕ). Step r b (Out (ResultEnd n) v) s t) (sym none) (result_out v s t (subst (λ (n : ℕ). Does r (Out (ResultEnd n) v) s t) none does))
    step (In (PartEnd i k) v) s t sound does = absurd does.0
    step (In (ImportEnd j k) v) s t sound does = in_step j k v s t sound.fit does
    step (In (ResultEnd k) v) s t sound does =
        let none = first_shake r is.done k (In (ResultEnd k) v) s t does.1 in
        subst (λ (n : ℕ). Step r b (In (ResultEnd n) v) s t) (sym none) (result_in v s t (subst (λ (n : ℕ). Does r (In (ResultEnd n) v) s t) none does))

    -- it holds on
    kept_so : (s t : Tokens) → t.state b.own ≡ s.state b.own → Kept b s → Kept b t
    kept_so s t state kept h c there serves up = kept h c there serves (sym (ap (λ (c : State). b.server.opened c h) state) ∙ up)

    kept_on : (x : Element) (s t : Tokens) → Step r b x s t → Kept b s → Kept b t
    kept_on x s t (of_body x' y s' t' local sees same) kept = kept_so s' t' same.state kept
    kept_on x s t (asked v s' t' small unseen state ask ans) kept = kept_so s' t' state kept
    kept_on x s t (told v s' t' unseen state ans none ask) kept = kept_so s' t' state kept
    kept_on x s t (starts s' t' z) kept = λ h c there serves up. let clash : true ≡ false = sym up ∙ z.closed h in absurd (cc clash)
    kept_on x s t (supplies slot s' t' z) kept = λ h c there serves up. by_back h c there serves (nat_eq z.serves.back h) refl (sym (opened h) ∙ up)
      where
        opened : (h : ℕ)
            → b.server.opened (t'.state b.own) h
            ≡ after_pass z.serves.back (way_put z.serves.given.role) (after_pass z.serves.at (way_taken z.serves.taken.role) (b.server.opened (s'.state b.own))) h
        opened h = ap (λ (c : State). b.server.opened c h) z.state ∙ z.serves.opened z.value h

        by_at : (h : ℕ) (c : Contact) → slice_get (contacts_of b.server.supply) h ≡ Some c → c.role ≡ Serve → (t : Bool) → nat_eq z.serves.at h ≡ t
            → (if t then is_request (way_taken z.serves.taken.role) else b.server.opened (s'.state b.own) h) ≡ true
            → StandsIn b.body (ImportEnd b.place h)
        by_at h c there serves true e up = let same : z.serves.at ≡ h = eqb-true z.serves.at h e in subst (λ (n : ℕ). StandsIn b.body (ImportEnd b.place n)) same z.stands
        by_at h c there serves false e up = kept h c there serves up

        by_back : (h : ℕ) (c : Contact) → slice_get (contacts_of b.server.supply) h ≡ Some c → c.role ≡ Serve → (t : Bool) → nat_eq z.serves.back h ≡ t
            → (if t then is_request (way_put z.serves.given.role)
            else after_pass z.serves.at (way_taken z.serves.taken.role) (b.server.opened (s'.state b.own)) h) ≡ true
            → StandsIn b.body (ImportEnd b.place h)
        by_back h c there serves true e up =
            let same : z.serves.back ≡ h = eqb-true z.serves.back h e in
            let one : z.serves.given ≡ c = same_Some z.serves.given c (sym z.serves.back_there ∙ (ap (slice_get (contacts_of b.server.supply)) same ∙ there)) in
            subst (λ (n : ℕ). StandsIn b.body (ImportEnd b.place n)) same (z.answered (ap (λ (x : Contact). x.role) one ∙ serves))
        by_back h c there serves false e up = by_at h c there serves (nat_eq z.serves.at h) refl up
    kept_on x s t (ended s' t' z) kept =
        λ h c there serves up.
        let shut = is.server.closed (t'.state b.own) h (ap b.server.runs z.rest ∙ is.server.rests) in
        let clash : true ≡ false = sym up ∙ shut in absurd (cc clash)
    kept_on x s t (lost j k v s' t' c there none unseen same) kept = kept_so s' t' same.state kept

    pub sound_on : (x : Element) (s t : Tokens) → Sound r b s → Does r x s t → Sound r b t
    sound_on x s t sound does =
        record {
          fit = all_stay_fit r (x ∷ []) s t is.cut.whole_right literals sound.fit (t, does, refl);
          kept = kept_on x s t (step x s t sound does) sound.kept;
        }

  pub sound_first : (s : Tokens) → IsIdle r s → Sound r b s
  sound_first s idle =
      record {
        fit = idle_fits r s idle;
        kept = λ h c there serves up.
            let shut = is.server.closed (s.state b.own) h (ap b.server.runs (idle.1 b.own) ∙ is.server.rests) in
            let clash : true ≡ false = sym up ∙ shut in absurd (cc clash);
      }
