-- A list of a block is orderly where that of its body is.
--
-- The server opens and closes the handshake at which it asks the body, by its phase (`Opened`). That a token at the variable finds a row
-- follows from the turns of the body: it comes in turn, an import is open only where the result is, and so is one that ends (`Ready`).
use Rattle.std.specs.Prelude.{◌≡◌, ◌⊎◌, ℕ, suc, Bool, true, false, List, [], ◌∷◌, ◌++◌, Option, Some, None, All, slice_get}
use Rattle.std.proofs.Common.{arith, refl, sym, ap, subst, inl, inr, ◌∙◌}
use Rattle.std.proofs.lemmas.Option.{same_Some}
use Rattle.gos_types.specs.Types.{Type'}
use Rattle.gos_types.specs.declared.shakes.Role.{Role}
use Rattle.gos_types.specs.declared.shakes.Role.TheVariants.{Serve, Ask}
use Rattle.gos_types.specs.Events.{Direction, Request, Answer}
use Rattle.gos_plan.specs.Kinds.{Contact, asks, contacts_of, part_contacts}
use Rattle.gos_plan.specs.Firing.{State, Slot, Req, Ans, Row, firing}
use Rattle.gos_plan.specs.Plans.{End, PartEnd, ImportEnd, ResultEnd, Plan, contact_at, contacts_of_part}
use Rattle.gos_plan.specs.Tokens.{Tokens, Element, Fire, Out, In, held_at, token_at, with_token, with_state, end_of, shake_of, way_of, way_taken, way_put, firing_of, Passes, Does, IsIdle}
use Rattle.gos_plan.specs.Orderly.{Open, named_by, handshake_at, none_open, with_open, after_taken, after_put, ComesWell, ComesInOrder, AllWelcome, OrderlyFrom}
use Rattle.gos_plan.specs.TokenBits.{LiteralFits}
use Rattle.gos_plan.proofs.JointLemmas.{apart_is_not_same}
use Rattle.gos_plan.proofs.HeldLemmas as held
use Rattle.gos_plan.proofs.ProjectionLemmas.{named}
use Rattle.gos_nodes.specs.sessions.Sessions as sessions
use Rattle.gos_joining.specs.webs.Cutting.{lies_at, StandsIn, cut_tokens}
use Rattle.gos_realises.specs.realises.Regular.{Pass, pass, is_request, is_open, ComesInTurn, KeepsTurnsOf, KeepsTurns, OutputsKeepTurns}
use Rattle.gos_realises.proofs.realises.RingLemmas.{after}
use Rattle.gos_realises.proofs.realises.PassLemmas.{open_itself}
use Rattle.gos_nodes.specs.parallel.Parallel.{IsPartOf}
use Rattle.gos_nodes.proofs.blocks.EndLemmas.{Lies, in_part, at_import, at_driver, lies}
use Rattle.gos_nodes.proofs.parallel.GateLemmas.{gate, Same, result_gate, part_gate}
use Rattle.gos_nodes.proofs.parallel.HungLemmas.{HeldBy, IsHung, Local, Sees, Unseen, held_token, held_put, result_put, is_answered}
use Rattle.gos_nodes.proofs.windows.TurnLemmas.{Turned, import_kept, import_shut, import_result}
use Rattle.gos_nodes.proofs.parallel.LinkedLemmas.{Comes}
use Rattle.gos_nodes.proofs.parallel.OpenLemmas.{comes_by, AgreeBy, ApartBy, put_agrees, taken_agrees, put_apart, taken_apart, put_well, side_step}
use Rattle.gos_nodes.proofs.parallel.AskedLemmas.{with_itself, with_other, peel, local_past, contact_part, asked_next, told_next, asked_agrees, told_agrees, welcome_inside, last_well}
use Rattle.gos_nodes.proofs.parallel.OrderLemmas.{lies_open}
use Rattle.gos_nodes.proofs.windows.AskedLemmas.{done_contact}
use Rattle.gos_nodes.specs.blocks.Servers.{run_of, after_pass, FindsTurn, begin_row, serve_row, end_row}
use Rattle.gos_nodes.specs.blocks.Block.{Block, IsBlock}
use Rattle.gos_nodes.proofs.blocks.RegionLemmas as region
use Rattle.gos_nodes.proofs.blocks.RegionLemmas.{IsPort}
use Rattle.gos_nodes.proofs.blocks.ServerLemmas.{request_slot, answer_slot, WhichContact, at_body, at_supply, at_run, body_contact, supply_contact, which_contact, not_run, import_pass, same_after, comes_finds}
use Rattle.gos_nodes.proofs.blocks.StepLemmas.{Starts, Supplies, Ends, Step, of_body, asked, told, starts, supplies, ended, lost, Served, IsSeen, stands_at, own_state, own_firing, is_run}
use Rattle.gos_nodes.proofs.blocks.LinkedLemmas.{Driven, when_starting, when_working, seen, way_asked, way_told, body_told, way_supplied, asked_turn}

-- an output that can come next keeps turns
abbrev pub Ready : Plan → List Pass → Tokens → Type 0
Ready p own a = (e : End) (v : ℕ) (u : Tokens) → Does p (Out e v) a u → OutputsKeepTurns p own (Out e v ∷ [])

module _ (r : Plan) (b : Block) (is : IsBlock r b) (literals : All LiteralFits r.parts) where
  hung : IsHung (IsPort b) b.own 0 (sessions.bits r.outcome) b.cut r b.body
  hung = region.hung_body r b is

  not_result : (e : End) → Lies b e → e ≡ ResultEnd 0 → ⊥
  not_result e (in_part i j k at number) same = let bad : PartEnd i k ≡ ResultEnd 0 = sym at ∙ same in cc bad
  not_result e (at_import i j k at inner) same = let bad : ImportEnd j k ≡ ResultEnd 0 = sym at ∙ same in cc bad
  not_result e (at_driver h at) same = let bad : PartEnd b.own h ≡ ResultEnd 0 = sym at ∙ same in cc bad

  result_apart : ApartBy (IsPort b) b.cut b.body (ResultEnd 0)
  result_apart n held = apart_is_not_same (ResultEnd 0) (lies_at b.cut n) (λ e. not_result (lies_at b.cut n) (lies r b is n held) (sym e))

  -- what is open in the whole and in its body
  pub record Opened (past : List Pass) (o own : Open) (s : Tokens) : Type 0 where
    pub agree : AgreeBy (IsPort b) b.cut b.body o own
    pub result : o (ResultEnd 0) ≡ is_open past (ResultEnd 0)
    pub waits : o (PartEnd b.own 0) ≡ b.server.runs (s.state b.own).phase
    pub fit : held.AllFit o s

  -- where the server asks, its end names the handshake
  asker_name : (h : ℕ) (x : Contact) → slice_get (part_contacts b.server.part) h ≡ Some x → x.role ≡ Ask → handshake_at r (PartEnd b.own h) ≡ PartEnd b.own h
  asker_name h x there asks =
      named r b.own h b.server.part is.cut.whole_right is.own
      (λ c e serve.
      let clash : Ask ≡ Serve = sym asks ∙ (ap (λ (y : Contact). y.role) (same_Some x c (sym there ∙ e)) ∙ serve) in cc clash)

  own_name : handshake_at r (PartEnd b.own 0) ≡ PartEnd b.own 0
  own_name = asker_name 0 (asks 0 (sessions.bits r.outcome)) (body_contact b.server (sessions.bits r.outcome) is.server) refl

  result_name : handshake_at r (ResultEnd 0) ≡ ResultEnd 0
  result_name = ap (λ o. named_by o (ResultEnd 0)) (result_gate (is_run r b is))

  abbrev bits : ℕ
  bits = sessions.bits r.outcome

  -- what lies at an end of the server by which it serves, the body puts next
  supply_next : (h v : ℕ) (own : List Pass) (s : Tokens) (c : Contact) → slice_get (contacts_of b.server.supply) h ≡ Some c → Ready b.body own (cut_tokens b.cut b.body s)
      → token_at r s (PartEnd b.own (suc h)) (way_taken c.role) ≡ Some v → KeepsTurns b.body own (pass (ImportEnd b.place h) (way_taken c.role))
  supply_next h v own s c there ready lies =
      subst (λ (way : Direction). KeepsTurns b.body own (pass e way)) (way_supplied r b is literals h c there)
      (ready e v (with_token b.body e (way_taken c.role) None (cut_tokens b.cut b.body s)) does).0
    where
      e : End
      e = ImportEnd b.place h

      stands : StandsIn b.body e
      stands = stands_at r b is (suc h) v (way_taken c.role) s (not_run b.server bits is.server (suc h) h c there refl) lies

      here : token_at b.body (cut_tokens b.cut b.body s) e (way_taken c.role) ≡ Some v
      here = held_token hung e (inl stands) s (way_taken c.role) ∙ (ap (λ (x : End). token_at r s x (way_taken c.role)) (is.served h) ∙ lies)

      does : Does b.body (Out e v) (cut_tokens b.cut b.body s) (with_token b.body e (way_taken c.role) None (cut_tokens b.cut b.body s))
      does = (
        tt,
        subst (λ (x : Option Contact). Passes b.body (Out e v) x (cut_tokens b.cut b.body s) (with_token b.body e (way_taken c.role) None (cut_tokens b.cut b.body s)))
            (sym (region.variable_contact r b is h ∙ there)) (here, refl),
      )

  -- it comes in turn
  supply_finds : (h : ℕ) (way : Direction) (past own : List Pass) (s : Tokens) → Driven b past own s → ComesInTurn own (ImportEnd b.place h) way
      → FindsTurn h way (b.server.opened (s.state b.own))
  supply_finds h way past own s driven comes = sym (driven.variable h) ∙ comes_finds own (ImportEnd b.place h) way comes

  -- while the body runs: its result is open, where a handshake of the variable is open before or after
  supply_runs : (h : ℕ) (way : Direction) (past own : List Pass) (s : Tokens) (c : Contact) → slice_get (contacts_of b.server.supply) h ≡ Some c → Driven b past own s
      → Turned b.body own → KeepsTurns b.body own (pass (ImportEnd b.place h) way) → b.server.runs (s.state b.own).phase ≡ true
  supply_runs h Request past own s c there driven turned keeps =
      sym driven.result
      ∙ import_result b.body (region.body_done r b is) (pass (ImportEnd b.place h) Request ∷ own) keeps.1 b.place h c (region.variable_contact r b is h ∙ there)
      (open_itself (ImportEnd b.place h) Request own)
  supply_runs h Answer past own s c there driven turned keeps =
      sym driven.result ∙ import_result b.body (region.body_done r b is) own turned b.place h c (region.variable_contact r b is h ∙ there) keeps.0

  supply_keeps : (h : ℕ) (way : Direction) (past own : List Pass) (s : Tokens) → Driven b past own s → KeepsTurns b.body own (pass (ImportEnd b.place h) way)
      → KeepsTurnsOf b.server.supply (after_pass h way (b.server.opened (s.state b.own)))
  supply_keeps h way past own s driven keeps =
      subst (λ (t : Type'). KeepsTurnsOf t (after_pass h way (b.server.opened (s.state b.own)))) is.type
      (subst (KeepsTurnsOf b.variable.ty)
      (λ l n.
      (import_pass b.place h n way own
      ∙ same_after h way (λ m. is_open own (ImportEnd b.place m)) (b.server.opened (s.state b.own)) driven.variable n) l)
      (import_kept b.body (pass (ImportEnd b.place h) way ∷ own) keeps.1 b.place b.variable is.there))

  supply_welcome : (t : Slot) (h v : ℕ) (past own : List Pass) (s : Tokens) (c : Contact) → slice_get (contacts_of b.server.supply) h ≡ Some c → shake_of t ≡ suc h
      → way_taken c.role ≡ way_of t → Driven b past own s → Turned b.body own → Ready b.body own (cut_tokens b.cut b.body s)
      → token_at r s (end_of b.own t) (way_of t) ≡ Some v → (row : Row) × (firing b.server.part (s.state b.own) t ≡ Some row)
  supply_welcome t h v past own s c there shake way driven turned ready lies =
      let here : token_at r s (PartEnd b.own (suc h)) (way_taken c.role) ≡ Some v =
      ap (λ w. token_at r s (PartEnd b.own (suc h)) w) way ∙ (ap (λ n. token_at r s (PartEnd b.own n) (way_of t)) (sym shake) ∙ lies) in
      let keeps = supply_next h v own s c there ready here in
      is.server.served (s.state b.own) t h c (supply_runs h (way_taken c.role) past own s c there driven turned keeps) there shake (sym way)
      (supply_finds h (way_taken c.role) past own s driven keeps.0) (supply_keeps h (way_taken c.role) past own s driven keeps)

  -- what the body answers with: then nothing of the variable is open
  answer_next : (v : ℕ) (own : List Pass) (s : Tokens) → Ready b.body own (cut_tokens b.cut b.body s) → token_at r s (PartEnd b.own 0) Answer ≡ Some v
      → KeepsTurns b.body own (pass (ResultEnd 0) Answer)
  answer_next v own s ready lies =
      subst (λ (way : Direction). KeepsTurns b.body own (pass (ResultEnd 0) way)) (body_told r b is literals)
      (ready (ResultEnd 0) v (cut_tokens b.cut b.body w) (is_answered hung v s w lies (result_put hung Answer None s))).0
    where
      w : Tokens
      w = with_token r (PartEnd b.own 0) Answer None s

  answer_shut : (past own : List Pass) (s : Tokens) → Driven b past own s → KeepsTurns b.body own (pass (ResultEnd 0) Answer) → (h : ℕ) (c : Contact)
      → slice_get (contacts_of b.server.supply) h ≡ Some c → b.server.opened (s.state b.own) h ≡ false
  answer_shut past own s driven keeps h c there =
      sym (driven.variable h)
      ∙ import_shut b.body (region.body_done r b is) (pass (ResultEnd 0) Answer ∷ own) keeps.1 refl b.place h c (region.variable_contact r b is h ∙ there)

  -- each token finds a row
  welcome_part : (s : Tokens) (o : Open) (past own : List Pass) → Driven b past own s → Turned b.body own → Ready b.body own (cut_tokens b.cut b.body s)
      → o (PartEnd b.own 0) ≡ b.server.runs (s.state b.own).phase → held.AllFit o s
      → (t : Slot) (c : Contact) (v : ℕ) → slice_get (part_contacts b.server.part) (shake_of t) ≡ Some c → way_taken c.role ≡ way_of t
      → token_at r s (end_of b.own t) (way_of t) ≡ Some v → (row : Row) × (firing b.server.part (s.state b.own) t ≡ Some row)
  welcome_part s o past own driven turned ready waits fit t c v there way lies = by_contact (which_contact b.server bits is.server (shake_of t) c there)
    where
      by_contact : WhichContact b.server bits (shake_of t) c → (row : Row) × (firing b.server.part (s.state b.own) t ≡ Some row)
      by_contact (at_body first is_c) =
          let answers : way_of t ≡ Answer = sym way ∙ ap (λ (x : Contact). way_taken x.role) is_c in
          let slot : t ≡ Ans 0 = answer_slot t answers ∙ ap Ans first in
          let here = subst (λ (x : Slot). token_at r s (end_of b.own x) (way_of x) ≡ Some v) slot lies in
          let runs = sym waits ∙ lies_open r (PartEnd b.own 0) o s v own_name fit here in
          let (row, by) = is.server.ended (s.state b.own) runs (answer_shut past own s driven (answer_next v own s ready here)) in
          (row, ap (firing b.server.part (s.state b.own)) slot ∙ by)
      by_contact (at_supply n shake at) = supply_welcome t n v past own s c at shake way driven turned ready lies
      by_contact (at_run last is_c) =
          let requests : way_of t ≡ Request = sym way ∙ ap (λ (x : Contact). way_taken x.role) is_c in
          let slot : t ≡ Req (run_of b.server) = request_slot t requests ∙ ap Req last in
          let here = subst (λ (x : Slot). token_at r s (end_of b.own x) (way_of x) ≡ Some v) slot lies in
          let some : gate s Request ≡ Some v = sym (ap (held_at s Request) (part_gate (is_run r b is))) ∙ here in
          let (opened, rest, empty) =
          when_starting b.server.runs is.server.rests (is_open past (ResultEnd 0)) (s.state b.own).phase (gate s Request) (gate s Answer) v driven.stage some in
          let (row, by) = is.server.begun (s.state b.own) rest in
          (row, ap (firing b.server.part (s.state b.own)) slot ∙ by)

  pub welcome_all : (s : Tokens) (past own : List Pass) (o body_open : Open) → Driven b past own s → Turned b.body own → Ready b.body own (cut_tokens b.cut b.body s)
      → Opened past o body_open s → AllWelcome b.body (cut_tokens b.cut b.body s) → AllWelcome r s
  welcome_all s past own o body_open driven turned ready opened welcome i t c v there way lies =
      let (k, part) = contact_part (slice_get r.parts i) (shake_of t) c there in by_part (is.parts i k part)
    where
      by_part : IsPartOf b.cut i ⊎ (i ≡ b.own) → (row : Row) × (firing_of (slice_get r.parts i) (s.state i) t ≡ Some row)
      by_part (inl one) = welcome_inside hung s welcome i one t c v there way lies
      by_part (inr same) =
          let here : slice_get (part_contacts b.server.part) (shake_of t) ≡ Some c =
          sym (ap (λ o. slice_get (contacts_of_part o) (shake_of t)) (ap (λ n. slice_get r.parts n) same ∙ is.own)) ∙ there in
          let (row, by) =
          welcome_part s o past own driven turned ready opened.waits opened.fit t c v here way
          (ap (λ n. token_at r s (end_of n t) (way_of t)) (sym same) ∙ lies) in
          subst (λ n. (row : Row) × (firing_of (slice_get r.parts n) (s.state n) t ≡ Some row)) (sym same) (row, own_firing r b is t row s by)

  -- after one element
  pub record Next (x : Element) (s w : Tokens) (past : List Pass) (o : Open) (ys : List Element) (lu : Open) (lt : Tokens) : Type 0 where
    pub open_now : Open
    pub own_now : Open
    pub comes : ComesInOrder r x s o open_now
    pub opened : Opened (after r x past) open_now own_now w
    pub welcome : AllWelcome b.body (cut_tokens b.cut b.body w)
    pub rest : OrderlyFrom b.body ys own_now (cut_tokens b.cut b.body w) lu lt

  module _ (past own : List Pass) (o lo lu : Open) (lt : Tokens) (ys : List Element) where
    abbrev Result : Element → Tokens → Tokens → Type 0
    Result x s w = Next x s w past o ys lu lt

    on_body : (x y : Element) (s w : Tokens) → Local b.cut r b.body x y → Does r x s w → Sees b.cut b.body y s w → Same b.own s w → Opened past o lo s
        → OrderlyFrom b.body (y ∷ ys) lo (cut_tokens b.cut b.body s) lu lt → is_open past (ResultEnd 0) ≡ is_open (after r x past) (ResultEnd 0) → Result x s w
    on_body x y s w local does sees same opened list past_same =
        let (next, own_comes, welcome, rest) = peel b.body y ys lo lu (cut_tokens b.cut b.body s) (cut_tokens b.cut b.body w) lt sees list in
        let one = side_step hung x y s w o lo next local opened.agree does own_comes in
        record {
          open_now = one.now;
          own_now = next;
          comes = one.comes;
          opened =
              record {
                agree = one.agree;
                result = one.kept (ResultEnd 0) result_apart ∙ (opened.result ∙ past_same);
                waits = one.driver 0 ∙ (opened.waits ∙ ap (λ (c : State). b.server.runs c.phase) (sym same.state));
                fit = held.step r x o one.now s w does one.comes opened.fit;
              };
          welcome = welcome;
          rest = rest;
        }

    -- the result is asked, or answers
    at_result : (x : Element) (s w : Tokens) (t : Bool) → Does r x s w → Unseen b.cut b.body s w → w.state b.own ≡ s.state b.own → Opened past o lo s
        → AllWelcome b.body (cut_tokens b.cut b.body s) → OrderlyFrom b.body ys lo (cut_tokens b.cut b.body s) lu lt
        → t ≡ is_open (after r x past) (ResultEnd 0) → ComesInOrder r x s o (with_open (ResultEnd 0) t o) → Result x s w
    at_result x s w t does unseen state opened welcome list now comes =
        record {
          open_now = with_open (ResultEnd 0) t o;
          own_now = lo;
          comes = comes;
          opened =
              record {
                agree = λ n held. with_other (ResultEnd 0) (lies_at b.cut n) t o (not_result (lies_at b.cut n) (lies r b is n held)) ∙ opened.agree n held;
                result = now;
                waits = opened.waits ∙ ap (λ (c : State). b.server.runs c.phase) (sym state);
                fit = held.step r x o (with_open (ResultEnd 0) t o) s w does comes opened.fit;
              };
          welcome = subst (AllWelcome b.body) (sym unseen) welcome;
          rest = subst (λ (a : Tokens). OrderlyFrom b.body ys lo a lu lt) (sym unseen) list;
        }

    -- the server asks the body
    on_start : (s w : Tokens) (z : Starts r b s w) → Does r (Fire b.own (Req (run_of b.server))) s w → Opened past o lo s
        → OrderlyFrom b.body (In (ResultEnd 0) 0 ∷ ys) lo (cut_tokens b.cut b.body s) lu lt → Result (Fire b.own (Req (run_of b.server))) s w
    on_start s w z does opened list =
        let slot = Req (run_of b.server) in
        let (next, own_comes, welcome, rest) = peel b.body (In (ResultEnd 0) 0) ys lo lu (cut_tokens b.cut b.body s) (cut_tokens b.cut b.body w) lt z.sees list in
        let next_is = asked_next hung (cut_tokens b.cut b.body s) lo next own_comes in
        let shut : o (PartEnd b.own 0) ≡ false = opened.waits ∙ (ap b.server.runs z.rest ∙ is.server.rests) in
        let comes : ComesInOrder r (Fire b.own slot) s o (with_open (PartEnd b.own 0) true o) =
        comes_by r b.own slot s w o (with_open (PartEnd b.own 0) true o) (begin_row b.server z.next) does z.took
        (λ v. ((ap o own_name ∙ shut, tt), ap (λ (n : End). with_open n true o) (sym own_name))) in
        record {
          open_now = with_open (PartEnd b.own 0) true o;
          own_now = next;
          comes = comes;
          opened =
              record {
                agree = λ n held. asked_agrees hung own_name o lo opened.agree n held ∙ ap (λ (x : Open). x n) (sym next_is);
                result = opened.result;
                waits = with_itself (PartEnd b.own 0) true o ∙ sym z.runs;
                fit = held.step r (Fire b.own slot) o (with_open (PartEnd b.own 0) true o) s w does comes opened.fit;
              };
          welcome = welcome;
          rest = rest;
        }

    on_end : (s w : Tokens) (z : Ends r b s w) → Does r (Fire b.own (Ans 0)) s w → Driven b past own s → Opened past o lo s
        → OrderlyFrom b.body (Out (ResultEnd 0) z.value ∷ ys) lo (cut_tokens b.cut b.body s) lu lt → Result (Fire b.own (Ans 0)) s w
    on_end s w z does driven opened list =
        let (next, own_comes, welcome, rest) = peel b.body (Out (ResultEnd 0) z.value) ys lo lu (cut_tokens b.cut b.body s) (cut_tokens b.cut b.body w) lt z.sees list in
        let next_is = told_next hung z.value (cut_tokens b.cut b.body s) lo next own_comes in
        let (up, none, empty) =
        when_working b.server.runs is.server.rests (is_open past (ResultEnd 0)) (s.state b.own).phase (gate s Request) (gate s Answer) driven.stage z.runs in
        let comes : ComesInOrder r (Fire b.own (Ans 0)) s o (with_open (PartEnd b.own 0) false o) =
        comes_by r b.own (Ans 0) s w o (with_open (PartEnd b.own 0) false o) (end_row b.server z.next) does z.took
        (λ v. ((last_well (is_run r b is) 0 s (z.next v) o (λ e. omega (arith, e)) own_name (opened.result ∙ up) none empty, tt), ap (λ (n : End). with_open n false o) (sym own_name))) in
        record {
          open_now = with_open (PartEnd b.own 0) false o;
          own_now = next;
          comes = comes;
          opened =
              record {
                agree = λ n held. told_agrees hung own_name o lo opened.agree n held ∙ ap (λ (x : Open). x n) (sym next_is);
                result = opened.result;
                waits = with_itself (PartEnd b.own 0) false o ∙ sym (ap b.server.runs z.rest ∙ is.server.rests);
                fit = held.step r (Fire b.own (Ans 0)) o (with_open (PartEnd b.own 0) false o) s w does comes opened.fit;
              };
          welcome = welcome;
          rest = rest;
        }

    -- what the server takes and puts at its supply changes nothing of the handshake of the body
    taken_waits : (h : ℕ) (c : Contact) (role : Role) (now : Open) → slice_get (contacts_of b.server.supply) h ≡ Some c → c.role ≡ role
        → after_taken r (PartEnd b.own (suc h)) (way_taken role) now (PartEnd b.own 0) ≡ now (PartEnd b.own 0)
    taken_waits h c Serve now there is_role = refl
    taken_waits h c Ask now there is_role =
        ap (λ (e : End). with_open e false now (PartEnd b.own 0)) (asker_name (suc h) c (supply_contact b.server bits is.server h c there) is_role)
        ∙ with_other (PartEnd b.own (suc h)) (PartEnd b.own 0) false now (λ e. let bad : 0 ≡ suc h = cc e in omega (arith, bad))

    put_waits : (h : ℕ) (c : Contact) (role : Role) (now : Open) → slice_get (contacts_of b.server.supply) h ≡ Some c → c.role ≡ role
        → after_put r (PartEnd b.own (suc h)) (way_put role) now (PartEnd b.own 0) ≡ now (PartEnd b.own 0)
    put_waits h c Serve now there is_role = refl
    put_waits h c Ask now there is_role =
        ap (λ (e : End). with_open e true now (PartEnd b.own 0)) (asker_name (suc h) c (supply_contact b.server bits is.server h c there) is_role)
        ∙ with_other (PartEnd b.own (suc h)) (PartEnd b.own 0) true now (λ e. let bad : 0 ≡ suc h = cc e in omega (arith, bad))

    -- the variable is served
    module _ (slot : Slot) (s w : Tokens) (z : Supplies r b slot s w) where
      abbrev one_end : End
      one_end = ImportEnd b.place z.serves.at

      abbrev other_end : End
      other_end = ImportEnd b.place z.serves.back

      abbrev taken : Direction
      taken = way_taken z.serves.taken.role

      abbrev given : Direction
      given = way_put z.serves.given.role

      -- what is open when the token is taken, and when the reply is put
      abbrev taken_now : Open
      taken_now = after_taken r (PartEnd b.own (suc z.serves.at)) taken o

      abbrev now : Open
      now = after_put r (PartEnd b.own (suc z.serves.back)) given taken_now

      abbrev body_taken : Open
      body_taken = after_taken b.body one_end taken lo

      one_contact : contact_at b.body one_end ≡ Some z.serves.taken
      one_contact = region.variable_contact r b is z.serves.at ∙ z.serves.at_there

      other_contact : contact_at b.body other_end ≡ Some z.serves.given
      other_contact = region.variable_contact r b is z.serves.back ∙ z.serves.back_there

      -- the end at which it replies is counted
      back_held : HeldBy (IsPort b) b.body other_end
      back_held = inr (suc z.serves.back, not_run b.server bits is.server (suc z.serves.back) z.serves.back z.serves.given z.serves.back_there refl, refl)

      taken_agree : AgreeBy (IsPort b) b.cut b.body o lo → AgreeBy (IsPort b) b.cut b.body taken_now body_taken
      taken_agree agree =
          subst (λ (e : End). AgreeBy (IsPort b) b.cut b.body (after_taken r e taken o) body_taken) (is.served z.serves.at)
          (taken_agrees hung one_end taken o lo (inl z.stands) agree)

      now_agree : AgreeBy (IsPort b) b.cut b.body o lo → AgreeBy (IsPort b) b.cut b.body now (after_put b.body other_end given body_taken)
      now_agree agree =
          subst (λ (e : End). AgreeBy (IsPort b) b.cut b.body (after_put r e given taken_now) (after_put b.body other_end given body_taken)) (is.served z.serves.back)
          (put_agrees hung other_end given taken_now body_taken back_held (taken_agree agree))

      now_result : now (ResultEnd 0) ≡ o (ResultEnd 0)
      now_result =
          subst (λ (e : End). after_put r e given taken_now (ResultEnd 0) ≡ taken_now (ResultEnd 0)) (is.served z.serves.back)
          (put_apart hung other_end (ResultEnd 0) given taken_now back_held result_apart)
          ∙ subst (λ (e : End). after_taken r e taken o (ResultEnd 0) ≡ o (ResultEnd 0)) (is.served z.serves.at)
          (taken_apart hung one_end (ResultEnd 0) taken o (inl z.stands) result_apart)

      now_waits : now (PartEnd b.own 0) ≡ o (PartEnd b.own 0)
      now_waits =
          put_waits z.serves.back z.serves.given z.serves.given.role taken_now z.serves.back_there refl
          ∙ taken_waits z.serves.at z.serves.taken z.serves.taken.role o z.serves.at_there refl

      -- the reply is put where it comes well
      module _ (a : Tokens) (out : Does b.body (Out one_end z.value) (cut_tokens b.cut b.body s) a) (agree : AgreeBy (IsPort b) b.cut b.body o lo)
          (well : ComesWell b.body other_end given body_taken a) where
        abbrev without : Tokens
        without = with_token r (PartEnd b.own (suc z.serves.at)) taken None s

        taken_leads : a ≡ cut_tokens b.cut b.body without
        taken_leads =
            (subst (λ (x : Option Contact). Passes b.body (Out one_end z.value) x (cut_tokens b.cut b.body s) a) one_contact out.1).1
            ∙ (held_put hung one_end (inl z.stands) taken None s
            ∙ ap (λ (x : End). cut_tokens b.cut b.body (with_token r x taken None s)) (is.served z.serves.at))

        reply_well : (q : State) → ComesWell r (PartEnd b.own (suc z.serves.back)) given taken_now (with_state b.own q without)
        reply_well q =
            subst (λ (x : End). ComesWell r x given taken_now (with_state b.own q without)) (is.served z.serves.back)
            (put_well hung other_end given taken_now body_taken (with_state b.own q without) back_held (taken_agree agree)
            (subst (λ (x : Tokens). ComesWell b.body other_end given body_taken x) (taken_leads ∙ sym (own_state r b is q without)) well))

        abbrev Facts : ℕ → ℕ → Direction → ℕ → Direction → Type 0
        Facts v h x j y =
            (ComesWell r (PartEnd b.own j) y (after_taken r (PartEnd b.own h) x o) (with_state b.own (z.serves.next v) (with_token r (PartEnd b.own h) x None s)) × Unit {0})
            × (now ≡ after_put r (PartEnd b.own j) y (after_taken r (PartEnd b.own h) x o))

        facts : (v : ℕ) → Facts v (shake_of slot) (way_of slot) (shake_of z.serves.reply) (way_of z.serves.reply)
        facts v =
            subst (λ (h : ℕ). Facts v h (way_of slot) (shake_of z.serves.reply) (way_of z.serves.reply)) (sym z.serves.takes_at)
            (subst (λ (x : Direction). Facts v (suc z.serves.at) x (shake_of z.serves.reply) (way_of z.serves.reply)) (sym z.serves.takes)
            (subst (λ (j : ℕ). Facts v (suc z.serves.at) taken j (way_of z.serves.reply)) (sym z.serves.puts_at)
            (subst (λ (y : Direction). Facts v (suc z.serves.at) taken (suc z.serves.back) y) (sym z.serves.puts) ((reply_well (z.serves.next v), tt), refl))))

        supply_comes : Does r (Fire b.own slot) s w → ComesInOrder r (Fire b.own slot) s o now
        supply_comes does =
            comes_by r b.own slot s w o now (serve_row slot z.serves.reply z.serves.number z.serves.next) does (z.took ∙ ap Some z.serves.is_row) facts

      on_supply : Served r b z.serves.at z.value z.serves.back (z.serves.number z.value) s w → Does r (Fire b.own slot) s w → Opened past o lo s
          → OrderlyFrom b.body (Out one_end z.value ∷ In other_end (z.serves.number z.value) ∷ ys) lo (cut_tokens b.cut b.body s) lu lt → Result (Fire b.own slot) s w
      on_supply (a, out, (d, in_one, same)) does opened list =
          let (first, first_comes', first_welcome, rest) =
          peel b.body (Out one_end z.value) (In other_end (z.serves.number z.value) ∷ ys) lo lu (cut_tokens b.cut b.body s) a lt out list in
          let (second, second_comes, welcome, after_both) = peel b.body (In other_end (z.serves.number z.value)) ys first lu a (cut_tokens b.cut b.body w) lt
          (subst (λ (x : Tokens). Does b.body (In other_end (z.serves.number z.value)) a x) (sym same) in_one) rest in
          let first_is : first ≡ body_taken = first_comes' z.serves.taken one_contact in
          let (well, second_is) = second_comes z.serves.given other_contact in
          let comes = supply_comes a out opened.agree (subst (λ (x : Open). ComesWell b.body other_end given x a) first_is well) does in
          record {
            open_now = now;
            own_now = second;
            comes = comes;
            opened =
                record {
                  agree = λ m held. now_agree opened.agree m held ∙ ap (λ (x : Open). x m) (sym (second_is ∙ ap (after_put b.body other_end given) first_is));
                  result = now_result ∙ opened.result;
                  waits = now_waits ∙ (opened.waits ∙ (z.serves.running ∙ sym (ap (λ (c : State). b.server.runs c.phase) z.state ∙ z.serves.stays z.value)));
                  fit = held.step r (Fire b.own slot) o now s w does comes opened.fit;
                };
            welcome = welcome;
            rest = after_both;
          }

    pub order_step : (x : Element) (s w : Tokens) (z : Step r b x s w) → IsSeen r b x s w z → Does r x s w → Driven b past own s → Comes r past x → Opened past o lo s
        → AllWelcome b.body (cut_tokens b.cut b.body s)
        → OrderlyFrom b.body (seen r b is literals x s w z ++ ys) lo (cut_tokens b.cut b.body s) lu lt → Result x s w
    order_step x s w (of_body x' y s' t' local sees same) seen_so does driven comes opened welcome list =
        on_body x' y s' t' local does sees same opened list (local_past b.cut r b.body past x' y local)
    order_step x s w (asked v s' t' small unseen state ask ans) seen_so does driven comes opened welcome list =
        at_result (In (ResultEnd 0) v) s' t' true does unseen state opened welcome list (sym (ap is_request (way_asked r b is literals)))
        (λ c there.
        let same : asks 0 (sessions.bits r.outcome) ≡ c = same_Some (asks 0 (sessions.bits r.outcome)) c (sym (done_contact r.outcome is.done) ∙ there) in
        subst (λ (y : Contact). ComesWell r (ResultEnd 0) (way_put y.role) o s' × (with_open (ResultEnd 0) true o ≡ after_put r (ResultEnd 0) (way_put y.role) o)) same (
          ap o result_name ∙ (opened.result ∙ asked_turn r b is literals past comes),
          ap (λ (n : End). with_open n true o) (sym result_name),
        ))
    order_step x s w (told v s' t' unseen state ans none ask) seen_so does driven comes opened welcome list =
        at_result (Out (ResultEnd 0) v) s' t' false does unseen state opened welcome list (sym (ap is_request (way_told r b is literals)))
        (λ c there.
        let same : asks 0 (sessions.bits r.outcome) ≡ c = same_Some (asks 0 (sessions.bits r.outcome)) c (sym (done_contact r.outcome is.done) ∙ there) in
        subst (λ (y : Contact). with_open (ResultEnd 0) false o ≡ after_taken r (ResultEnd 0) (way_taken y.role) o) same
        (ap (λ (n : End). with_open n false o) (sym result_name)))
    order_step x s w (starts s' t' z) seen_so does driven comes opened welcome list = on_start s' t' z does opened list
    order_step x s w (supplies slot s' t' z) seen_so does driven comes opened welcome list = on_supply slot s' t' z z.served does opened list
    order_step x s w (ended s' t' z) seen_so does driven comes opened welcome list = on_end s' t' z does driven opened list
    order_step x s w (lost j k v s' t' c there none unseen same) seen_so does driven comes opened welcome list =
        absurd seen_so

  pub opened_first : (s : Tokens) → IsIdle r s → Opened [] none_open none_open s
  opened_first s rests =
      record {
        agree = λ n held. refl;
        result = refl;
        waits = sym (ap b.server.runs (rests.1 b.own) ∙ is.server.rests);
        fit = λ a. (rests.0 Request a, rests.0 Answer a);
      }
