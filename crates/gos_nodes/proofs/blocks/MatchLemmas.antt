-- A list of a block is matched by moves of its term, where that of its body is matched by moves of the body's, and the server is played.
use Rattle.std.specs.Prelude.{◌≡◌, ◌≢◌, ℕ, true, false, List, [], ◌∷◌, ◌++◌, Option, Some, None, All, slice_get}
use Rattle.std.proofs.Common.{arith, refl, sym, ap, subst, ◌∙◌}
use Rattle.gos_types.specs.Events.{Request, Answer}
use Rattle.gos_types.proofs.BytesLemmas.{same_bytes_eq}
use Rattle.gos_model.specs.Terms.{Name, Term}
use Rattle.gos_model.specs.Typing.{Imported}
use Rattle.gos_model.specs.Stores.{Store}
use Rattle.gos_model.specs.Labels.{Given, Taken, Label, given, taken}
use Rattle.gos_model.specs.Moves.{Program, Config, Idle, Running, Act, Computing, Showing, Answers, Moves, labels, Stalled}
use Rattle.gos_model.proofs.MoveLemmas.{idle_is_stalled, no_moves}
use Rattle.gos_plan.specs.Kinds.{Contact, asks}
use Rattle.gos_plan.specs.Firing.{Rest, State, Slot, Req, Ans, Row}
use Rattle.gos_plan.specs.Plans.{ImportEnd, ResultEnd, Plan, contact_at}
use Rattle.gos_plan.specs.Tokens.{Tokens, Element, Fire, Out, In, held_at, with_token, firing_of, fired, Passes, Does, Runs, IsIdle, IsQuiet}
use Rattle.gos_plan.specs.Orderly.{Open, none_open, AllWelcome}
use Rattle.gos_plan.specs.TokenBits.{LiteralFits}
use Rattle.gos_plan.proofs.DecidedLemmas.{one_state}
use Rattle.gos_nodes.specs.sessions.Sessions.{bits}
use Rattle.gos_joining.specs.webs.Cutting.{StandsIn, cut_tokens}
use Rattle.gos_realises.specs.realises.Regular.{Pass, is_open, InputsKeepTurns, IsRegular}
use Rattle.gos_realises.specs.realises.Matched.{port_if, event_number, shows, GoesOn, Agrees, IsMatched, program_of}
use Rattle.gos_realises.specs.realises.Realises.{NamesDiffer}
use Rattle.gos_realises.proofs.realises.RingLemmas.{after}
use Rattle.gos_realises.proofs.realises.ToldLemmas.{one_name, there_is}
use Rattle.gos_realises.proofs.realises.InputLemmas.{passed, first_turn, later_turns}
use Rattle.gos_realises.proofs.realises.MatchedLemmas.{matched_agrees}
use Rattle.gos_programs.specs.contexts.Plugged.{AreInner}
use Rattle.gos_programs.proofs.contexts.InnerLemmas.{idle_inner}
use Rattle.gos_nodes.proofs.windows.MeetLemmas.{IsUnjoined, HasPorts}
use Rattle.gos_nodes.proofs.parallel.GateLemmas.{gate, Same, result_gate, part_gate}
use Rattle.gos_nodes.proofs.parallel.HungLemmas.{Sees, Local, fires, puts_out, takes_in, import_real}
use Rattle.gos_nodes.proofs.parallel.LocalLemmas.{local_shows, not_given, local_goes, quiet_goes}
use Rattle.gos_nodes.proofs.parallel.LinkedLemmas.{Comes}
use Rattle.gos_nodes.proofs.parallel.RegularLemmas.{comes_of_turn}
use Rattle.gos_nodes.proofs.parallel.QuietLemmas.{Neat, neat_step}
use Rattle.gos_nodes.proofs.parallel.MoveLemmas.{AllTaken, inner_from, Came, came_on, request_begins, answer_ends}
use Rattle.gos_nodes.proofs.windows.AskedLemmas.{done_contact}
use Rattle.gos_nodes.specs.blocks.Servers.{run_of, begin_row, end_row}
use Rattle.gos_nodes.specs.blocks.Block.{Block, IsBlock}
use Rattle.gos_nodes.proofs.blocks.PlayedLemmas.{AllOthers, IsPlayed}
use Rattle.gos_nodes.proofs.blocks.RegionLemmas as region
use Rattle.gos_nodes.proofs.blocks.StepLemmas.{Starts, Supplies, Ends, Step, of_body, asked, told, starts, supplies, ended, lost, IsSeen, own_firing, firing_own, is_run}
use Rattle.gos_nodes.proofs.blocks.LinkedLemmas.{Driven, when_asking, seen, not_variable, asked_turn}
use Rattle.gos_nodes.proofs.blocks.RegularLemmas.{Holds, Went, is_seen, lost_inside, inside_of}
use Rattle.gos_nodes.proofs.blocks.WalkLemmas.{one_on, body_rest}
use Rattle.gos_nodes.proofs.blocks.QuietLemmas.{body_quiet, whole_idle}

others_taken : (y : Name) (ls : List Label) → AllOthers y ls → AllTaken ls
others_taken y [] apart = tt
others_taken y (l ∷ ls) apart = (apart.0, others_taken y ls apart.2)

module _
    (r : Plan) (b : Block) (is : IsBlock r b) (literals : All LiteralFits r.parts) (differ : NamesDiffer r.imports)
    (names : NamesDiffer b.body.imports) (inner_term term : Term) (Within : State → Config → Config → Type 0)
    (played : IsPlayed b.server b.variable.name (program_of b.body inner_term) (program_of r term) Within) where
  abbrev on_body : Program
  on_body = program_of b.body inner_term

  abbrev on_whole : Program
  on_whole = program_of r term

  -- how the whole stands with its body, by the server's state, and by what lies on the joint of the result
  data Stand (q : State) (ask ans : Option ℕ) (inner c : Config) : Type 0 where
    rests : q.phase ≡ Rest → ask ≡ None → ans ≡ None → inner ≡ Idle → c ≡ Idle → Stand q ask ans inner c
    waits : q.phase ≡ Rest → ask ≡ Some 0 → ans ≡ None → inner ≡ Idle → c ≡ Running term [] → Stand q ask ans inner c
    works : b.server.runs q.phase ≡ true → ask ≡ None → ans ≡ None → Within q inner c → Stand q ask ans inner c
    is_done :
        (v : ℕ) (last : Term) (x : Store) → q.phase ≡ Rest → ask ≡ None → ans ≡ Some v → inner ≡ Idle → c ≡ Running last x → Answers (given 1 v) last
        → Stand q ask ans inner c

  abbrev Stood : Tokens → Config → Config → Type 0
  Stood s inner c = Stand (s.state b.own) (gate s Request) (gate s Answer) inner c

  -- where nothing is possible the whole can only wait
  whole_waits : (s : Tokens) (inner c : Config) → Stood s inner c → AllWelcome r s → IsQuiet r s → Agrees b.body on_body (cut_tokens b.cut b.body s) inner
      → Came on_body inner → Stalled on_whole c
  whole_waits s inner c (rests rest none empty inner_is is_idle) welcome quiet agrees came = subst (Stalled on_whole) (sym is_idle) (idle_is_stalled on_whole)
  whole_waits s inner c (waits rest some empty inner_is is_body) welcome quiet agrees came =
      let (row, by) = is.server.begun (s.state b.own) rest in
      absurd (quiet.0 b.own (Req (run_of b.server)) (fired r b.own row 0 s)
      (0, row, ap (held_at s Request) (part_gate (is_run r b is)) ∙ some, own_firing r b is (Req (run_of b.server)) row s by, refl))
  whole_waits s inner c (works runs none empty within) welcome quiet agrees came =
      played.waits (s.state b.own) inner c came within (agrees.0 (body_quiet r b is literals s welcome quiet))
  whole_waits s inner c (is_done v last x rest none some inner_is is_last answers) welcome quiet agrees came =
      let contact : contact_at r (ResultEnd 0) ≡ Some (asks 0 (bits r.outcome)) = done_contact r.outcome is.done in
      let next = with_token r (ResultEnd 0) Answer None s in
      absurd (quiet.1 (ResultEnd 0) v next (
        tt,
        subst (λ (o : Option Contact). Passes r (Out (ResultEnd 0) v) o s next) (sym contact)
            (ap (held_at s Answer) (result_gate (is_run r b is)) ∙ some, refl),
      ))

  running_not_idle : (t : Term) (v : Store) (c : Config) → c ≡ Running t v → c ≡ Idle → ⊥
  running_not_idle t v c is_running is_idle = let bad : Running t v ≡ Idle = sym is_running ∙ is_idle in cc bad

  -- and where it is idle so is the plan
  whole_rests : (s : Tokens) (inner c : Config) → Stood s inner c → Neat r s → Agrees b.body on_body (cut_tokens b.cut b.body s) inner → c ≡ Idle → IsIdle r s
  whole_rests s inner c (rests rest none empty inner_is is_idle) neat agrees same =
      whole_idle r b is literals s neat (agrees.1 inner_is) rest none empty
  whole_rests s inner c (waits rest some empty inner_is is_body) neat agrees same = absurd (running_not_idle term [] c is_body same)
  whole_rests s inner c (works runs none empty within) neat agrees same = absurd (played.busy (s.state b.own) inner c within same)
  whole_rests s inner c (is_done v last x rest none some inner_is is_last answers) neat agrees same = absurd (running_not_idle last x c is_last same)

  -- what an element of the body shows is not at the variable
  abbrev Elsewhere : ℕ → Type 0
  Elsewhere i = (port_if (slice_get b.body.imports i) ≢ Given) × (port_if (slice_get b.body.imports i) ≢ Taken b.variable.name)

  other_import : (i : ℕ) (x : Imported) → slice_get b.body.imports i ≡ Some x → i ≢ b.place → Elsewhere i
  other_import i x at apart =
      let tests = one_name b.body.imports names i b.place x b.variable at is.there in (
        not_given (slice_get b.body.imports i) x at,
        λ e. let one : Taken x.name ≡ Taken b.variable.name = sym (ap port_if at) ∙ e in
            let name : x.name ≡ b.variable.name = cc one in
            apart (grind (arith, tests, same_bytes_eq x.name b.variable.name name)),
      )

  elsewhere : (i k : ℕ) → StandsIn b.body (ImportEnd i k) → i ≢ b.place → Elsewhere i
  elsewhere i k stands apart = let (x, at, low) = import_real b.body is.cut.right i k stands in other_import i x at apart

  local_others : (x y : Element) → Local b.cut r b.body x y → AllOthers b.variable.name (shows b.body y)
  local_others x y (fires i j k number) = tt
  local_others x y (puts_out i j k v stands leads slices) =
      let (taken', other') = elsewhere i k stands (not_variable r b is literals i j k leads) in (taken', other', tt)
  local_others x y (takes_in i j k v stands leads slices) =
      let (taken', other') = elsewhere i k stands (not_variable r b is literals i j k leads) in (taken', other', tt)

  -- what the server takes goes on
  own_goes : (slot : Slot) (row : Row) (s : Tokens) (acts : List Act) → firing_of (slice_get r.parts b.own) (s.state b.own) slot ≡ Some row
      → GoesOn r s (Fire b.own slot) acts
  own_goes (Req h) row s acts took = tt
  own_goes (Ans h) row s acts took =
      quiet_goes r b.own (Ans h) row s acts took (played.quiet (s.state b.own) h row (firing_own r b is (Ans h) row s took))

  -- the state of the part, where the joint of the result is as it was
  stand_same : (s w : Tokens) (inner c : Config) → w.state b.own ≡ s.state b.own → gate w Request ≡ gate s Request → gate w Answer ≡ gate s Answer
      → Stood s inner c → Stood w inner c
  stand_same s w inner c state ask ans stood =
      subst (λ (x : State). Stand x (gate w Request) (gate w Answer) inner c) (sym state)
      (subst (λ (x : Option ℕ). Stand (s.state b.own) x (gate w Answer) inner c) (sym ask)
      (subst (λ (x : Option ℕ). Stand (s.state b.own) (gate s Request) x inner c) (sym ans) stood))

  record Follows (x : Element) (s w : Tokens) (c : Config) (ys : List Element) : Type 0 where
    acts : List Act
    to : Config
    inner_to : Config
    moves : Moves on_whole acts c to
    shown : labels acts ≡ shows r x
    goes_on : GoesOn r s x acts
    stood : Stood w inner_to to
    came : Came on_body inner_to
    matched : IsMatched b.body on_body ys (cut_tokens b.cut b.body w) inner_to

  clash_none : (v : ℕ) (o : Option ℕ) → o ≡ None → o ≡ Some v → ⊥
  clash_none v o none some = let bad : None ≡ Some v = sym none ∙ some in cc bad

  -- which of the cases it is, and inner moves of the body
  module _ (q : State) (ask ans : Option ℕ) (inner c : Config) where
    abbrev Here : Type 0
    Here = Stand q ask ans inner c

    clash_runs : q.phase ≡ Rest → b.server.runs q.phase ≡ true → ⊥
    clash_runs rest runs = let bad : true ≡ false = sym runs ∙ (ap b.server.runs rest ∙ is.server.rests) in cc bad

    at_rest : Here → q.phase ≡ Rest → ask ≡ None → ans ≡ None → (inner ≡ Idle) × (c ≡ Idle)
    at_rest (rests rest none empty inner_is is_idle) phase no_ask no_ans = (inner_is, is_idle)
    at_rest (waits rest some empty inner_is is_body) phase no_ask no_ans = absurd (clash_none 0 ask no_ask some)
    at_rest (works runs none empty within) phase no_ask no_ans = absurd (clash_runs phase runs)
    at_rest (is_done v last x rest none some inner_is is_last answers) phase no_ask no_ans = absurd (clash_none v ans no_ans some)

    at_asked : (v : ℕ) → Here → ask ≡ Some v → (inner ≡ Idle) × (c ≡ Running term []) × (ans ≡ None)
    at_asked v (rests rest none empty inner_is is_idle) some = absurd (clash_none v ask none some)
    at_asked v (waits rest here empty inner_is is_body) some = (inner_is, is_body, empty)
    at_asked v (works runs none empty within) some = absurd (clash_none v ask none some)
    at_asked v (is_done n last x rest none here inner_is is_last answers) some = absurd (clash_none v ask none some)

    at_done : (v : ℕ) → Here → ans ≡ Some v
        → (last : Term) × (x : Store) × (q.phase ≡ Rest) × (ask ≡ None) × (inner ≡ Idle) × (c ≡ Running last x) × Answers (given 1 v) last
    at_done v (rests rest none empty inner_is is_idle) some = absurd (clash_none v ans empty some)
    at_done v (waits rest here empty inner_is is_body) some = absurd (clash_none v ans empty some)
    at_done v (works runs none empty within) some = absurd (clash_none v ans empty some)
    at_done v (is_done n last x rest none here inner_is is_last answers) some =
        let both : Some n ≡ Some v = sym here ∙ some in
        let same : n ≡ v = cc both in
        (last, x, rest, none, inner_is, is_last, subst (λ (j : ℕ). Answers (given 1 j) last) same answers)

    at_work : Here → b.server.runs q.phase ≡ true → (ask ≡ None) × (ans ≡ None) × Within q inner c
    at_work (rests rest none empty inner_is is_idle) runs = absurd (clash_runs rest runs)
    at_work (waits rest here empty inner_is is_body) runs = absurd (clash_runs rest runs)
    at_work (works also none empty within) runs = (none, empty, within)
    at_work (is_done n last x rest none here inner_is is_last answers) runs = absurd (clash_runs rest runs)

    stand_moves : (acts : List Act) (next : Config) → AllOthers b.variable.name (labels acts) → AreInner acts → Here → Moves on_body acts inner next
        → (e : Config) × Moves on_whole acts c e × Stand q ask ans next e
    stand_moves acts next apart own (rests rest none empty inner_is is_idle) moves =
        let (stays, idle_now) = idle_inner on_body acts next own (subst (λ (x : Config). Moves on_body acts x next) inner_is moves) in
        (c, no_moves on_whole acts c stays, rests rest none empty idle_now is_idle)
    stand_moves acts next apart own (waits rest some empty inner_is is_body) moves =
        let (stays, idle_now) = idle_inner on_body acts next own (subst (λ (x : Config). Moves on_body acts x next) inner_is moves) in
        (c, no_moves on_whole acts c stays, waits rest some empty idle_now is_body)
    stand_moves acts next apart own (works runs none empty within) moves =
        let (e, made, also) = played.others q acts inner next c apart within moves in (e, made, works runs none empty also)
    stand_moves acts next apart own (is_done v last x rest none some inner_is is_last answers) moves =
        let (stays, idle_now) = idle_inner on_body acts next own (subst (λ (x : Config). Moves on_body acts x next) inner_is moves) in
        (c, no_moves on_whole acts c stays, is_done v last x rest none some idle_now is_last answers)

  -- the labels at the variable, and the answer of the body
  request_label : (h v : ℕ) → shows b.body (Out (ImportEnd b.place h) v) ≡ taken b.variable.name (event_number Request h) v ∷ []
  request_label h v = λ t. record { port = port_if (is.there t); event = event_number Request h; value = v } ∷ []

  answer_label : (h v : ℕ) → shows b.body (In (ImportEnd b.place h) v) ≡ taken b.variable.name (event_number Answer h) v ∷ []
  answer_label h v = λ t. record { port = port_if (is.there t); event = event_number Answer h; value = v } ∷ []

  told_label : (v : ℕ) → shows b.body (Out (ResultEnd 0) v) ≡ given 1 v ∷ []
  told_label v = refl

  module _ (past own : List Pass) (inner c : Config) (ys : List Element) where
    abbrev Result : Element → Tokens → Tokens → Type 0
    Result x s w = Follows x s w c ys

    -- by an element of the body that shows the same, and not at the variable
    by_body : (x y : Element) (s w : Tokens) → AllOthers b.variable.name (shows b.body y) → shows b.body y ≡ shows r x
        → ((acts : List Act) → GoesOn b.body (cut_tokens b.cut b.body s) y acts → GoesOn r s x acts)
        → Does b.body y (cut_tokens b.cut b.body s) (cut_tokens b.cut b.body w) → Same b.own s w
        → Stood s inner c → Came on_body inner → IsMatched b.body on_body (y ∷ ys) (cut_tokens b.cut b.body s) inner → Result x s w
    by_body x y s w others shows_same goes_too sees same stood came (agrees, next) =
        let (acts, to, moves, shown, goes, rest) = next (cut_tokens b.cut b.body w) sees in
        let apart = subst (AllOthers b.variable.name) (sym shown) others in
        let within = inner_from acts (shows b.body y) shown (others_taken b.variable.name (shows b.body y) others) in
        let now = stand_same s w inner c same.state (same.gates Request) (same.gates Answer) stood in
        let (e, made, stood_now) =
        stand_moves (w.state b.own) (gate w Request) (gate w Answer) inner c acts to apart within now moves in
        record {
          acts = acts;
          to = e;
          inner_to = to;
          moves = made;
          shown = shown ∙ shows_same;
          goes_on = goes_too acts goes;
          stood = stood_now;
          came = came_on on_body acts inner to came moves;
          matched = rest;
        }

    follow_body : (x y : Element) (s w : Tokens) → Local b.cut r b.body x y → Does b.body y (cut_tokens b.cut b.body s) (cut_tokens b.cut b.body w) → Same b.own s w
        → Stood s inner c → Came on_body inner → IsMatched b.body on_body (y ∷ ys) (cut_tokens b.cut b.body s) inner → Result x s w
    follow_body x y s w local = by_body x y s w (local_others x y local) (local_shows b.cut r b.body x y local) (λ acts goes. local_goes (region.hung_body r b is) x y s acts local goes)

    -- an input at an end that stands in no joint
    follow_lost : (k j v i : ℕ) (none : IsUnjoined r b.cut b.body i j) → none.import ≡ k → (s w : Tokens) → Sees b.cut b.body (In (ImportEnd i j) v) s w → Same b.own s w
        → Stood s inner c → Came on_body inner → IsMatched b.body on_body (In (ImportEnd i j) v ∷ ys) (cut_tokens b.cut b.body s) inner → Result (In (ImportEnd k j) v) s w
    follow_lost k j v i none import s w =
        by_body (In (ImportEnd k j) v) (In (ImportEnd i j) v) s w (other.0, other.1, tt)
        (λ t. record { port = port_if (named t); event = event_number Answer j; value = v } ∷ []) (λ acts goes. tt)
      where
        named : slice_get b.body.imports i ≡ slice_get r.imports k
        named = sym none.same ∙ ap (slice_get r.imports) import

        other : Elsewhere i
        other =
            let (x, at) = there_is b.body.imports i j none.contact none.own in
            other_import i x at (not_variable r b is literals i none.import j none.outer)

    follow_starts : (s w : Tokens) (z : Starts r b s w) → Stood s inner c → Came on_body inner
        → IsMatched b.body on_body (In (ResultEnd 0) 0 ∷ ys) (cut_tokens b.cut b.body s) inner → Result (Fire b.own (Req (run_of b.server))) s w
    follow_starts s w z stood came (agrees, next) =
        let (inner_is, is_body, empty) = at_asked (s.state b.own) (gate s Request) (gate s Answer) inner c z.value stood z.ask in
        let (acts, to, moves, shown, goes, rest) = next (cut_tokens b.cut b.body w) z.sees in
        let one = request_begins on_body acts to _ (subst (λ (x : Config). Moves on_body acts x to) inner_is moves) shown in
        let slot = Req (run_of b.server) in
        let (opened, step, first) =
        played.begins (s.state b.own) z.next z.value (firing_own r b is slot (begin_row b.server z.next) s z.took) z.rest in
        let (last, more, also) =
        played.others (z.next z.value) one.acts (Running inner_term []) to opened (subst (AllOthers b.variable.name) (sym one.silent) tt) first one.moves in
        let made : Moves on_whole (Computing ∷ one.acts) (Running term []) last = (opened, step, more) in
        record {
          acts = Computing ∷ one.acts;
          to = last;
          inner_to = to;
          moves = subst (λ (x : Config). Moves on_whole (Computing ∷ one.acts) x last) (sym is_body) made;
          shown = one.silent;
          goes_on = tt;
          stood =
              works z.runs z.none (z.ans ∙ empty)
              (subst (λ (x : State). Within x to last) (sym z.state) also);
          came = came_on on_body acts inner to came moves;
          matched = rest;
        }

    follow_supply : (slot : Slot) (s w : Tokens) (z : Supplies r b slot s w) → Stood s inner c → Came on_body inner
        → IsMatched b.body on_body (Out (ImportEnd b.place z.serves.at) z.value ∷ In (ImportEnd b.place z.serves.back) (z.serves.number z.value) ∷ ys) (cut_tokens b.cut b.body s) inner
        → Result (Fire b.own slot) s w
    follow_supply slot s w z stood came (agrees, next) =
        let (none, empty, within) = at_work (s.state b.own) (gate s Request) (gate s Answer) inner c stood z.serves.running in
        let (s1, does, (s2, also, last)) = z.served in
        let (first, between, moves, shown, goes, (agrees', next')) = next s1 does in
        let (second, to, more, answered, goes', rest) = next' s2 also in
        let all =
        played.serves (s.state b.own) slot z.row z.serves z.value first second inner between to c (firing_own r b is slot z.row s z.took) came
        (shown ∙ request_label z.serves.at z.value)
        (answered ∙ answer_label z.serves.back (z.serves.number z.value)) within moves more in
        record {
          acts = all.acts;
          to = all.to;
          inner_to = to;
          moves = all.moves;
          shown = all.silent;
          goes_on = own_goes slot z.row s all.acts z.took;
          stood =
              works (ap (λ (x : State). b.server.runs x.phase) z.state ∙ z.serves.stays z.value) (z.gates Request ∙ none) (z.gates Answer ∙ empty)
              (subst (λ (x : State). Within x to all.to) (sym z.state) all.within);
          came = came_on on_body second between to (came_on on_body first inner between came moves) more;
          matched = subst (λ a. IsMatched b.body on_body ys a to) (sym last) rest;
        }

    follow_ended : (s w : Tokens) (z : Ends r b s w) → Stood s inner c → Came on_body inner
        → IsMatched b.body on_body (Out (ResultEnd 0) z.value ∷ ys) (cut_tokens b.cut b.body s) inner → Result (Fire b.own (Ans 0)) s w
    follow_ended s w z stood came (agrees, next) =
        let (none, empty, within) = at_work (s.state b.own) (gate s Request) (gate s Answer) inner c stood z.runs in
        let (t, u, is_running) = played.runs (s.state b.own) inner c within in
        let (acts, to, moves, shown, goes, rest) = next (cut_tokens b.cut b.body w) z.sees in
        let e =
        answer_ends on_body acts t u to (given 1 z.value) refl (subst (λ (x : Config). Moves on_body acts x to) is_running moves) (shown ∙ told_label z.value) in
        let left =
        played.leaves (s.state b.own) z.next t u (given 1 z.value) to c (firing_own r b is (Ans 0) (end_row b.server z.next) s z.took)
        (subst (λ (x : Config). Within (s.state b.own) x c) is_running within) e in
        record {
          acts = left.acts;
          to = Running left.last left.store;
          inner_to = to;
          moves = left.moves;
          shown = left.silent;
          goes_on = own_goes (Ans 0) (end_row b.server z.next) s left.acts z.took;
          stood = is_done z.value left.last left.store z.rest (z.ask ∙ none) z.ans e.idle (refl {a = Running left.last left.store}) left.answers;
          came = came_on on_body acts inner to came moves;
          matched = rest;
        }

    follow : (x : Element) (s w : Tokens) (z : Step r b x s w) → IsSeen r b x s w z → Driven b past own s → Comes r past x → Stood s inner c → Came on_body inner
        → IsMatched b.body on_body (seen r b is literals x s w z ++ ys) (cut_tokens b.cut b.body s) inner → Result x s w
    follow x s w (of_body x' y s' w' local sees same) seen_so driven comes stood came matched = follow_body x' y s' w' local sees same stood came matched
    follow x s w (asked v s' w' small unseen state ask ans) seen_so driven comes stood came matched =
        let (rest, none, empty) =
        when_asking b.server.runs is.server.rests (is_open past (ResultEnd 0)) (s'.state b.own).phase (gate s' Request) (gate s' Answer) driven.stage (asked_turn r b is literals past comes) in
        let (inner_is, is_idle) = at_rest (s'.state b.own) (gate s' Request) (gate s' Answer) inner c stood rest none empty in
        record {
          acts = Showing (given 0 0) ∷ [];
          to = Running term [];
          inner_to = inner;
          moves =
              subst (λ (x : Config). Moves on_whole (Showing (given 0 0) ∷ []) x (Running term [])) (sym is_idle)
              (Running term [], (refl, refl), refl);
          shown = λ t. given 0 (sym small t) ∷ [];
          goes_on = tt;
          stood = waits (ap (λ q. q.phase) state ∙ rest) (ask ∙ ap (λ k. Some k) small) (ans ∙ empty) inner_is refl;
          came = came;
          matched = subst (λ a. IsMatched b.body on_body ys a inner) (sym unseen) matched;
        }
    follow x s w (told v s' w' unseen state ans none ask) seen_so driven comes stood came matched =
        let (last, store, rest, empty, inner_is, is_last, answers) =
        at_done (s'.state b.own) (gate s' Request) (gate s' Answer) inner c v stood ans in
        record {
          acts = Showing (given 1 v) ∷ [];
          to = Idle;
          inner_to = inner;
          moves =
              subst (λ (x : Config). Moves on_whole (Showing (given 1 v) ∷ []) x Idle) (sym is_last) (Idle, (0, last, refl, answers), refl);
          shown = refl;
          goes_on = tt;
          stood = rests (ap (λ q. q.phase) state ∙ rest) (ask ∙ empty) none inner_is refl;
          came = came;
          matched = subst (λ a. IsMatched b.body on_body ys a inner) (sym unseen) matched;
        }
    follow x s w (starts s' w' z) seen_so driven comes stood came matched = follow_starts s' w' z stood came matched
    follow x s w (supplies slot s' w' z) seen_so driven comes stood came matched = follow_supply slot s' w' z stood came matched
    follow x s w (ended s' w' z) seen_so driven comes stood came matched = follow_ended s' w' z stood came matched
    follow x s w (lost j k v s' w' t there none unseen same) seen_so driven comes stood came matched =
        absurd seen_so

  module _ (ports : HasPorts r b.cut b.body) (regular : IsRegular b.body) (first : Tokens) (resting : IsIdle r first) where
    abbrev inside_by : (x : Element) (s w : Tokens) → Went r b is literals ports regular first resting x s w → List Element
    inside_by = inside_of r b is literals ports regular first resting

    goes : (past own : List Pass) (inner c : Config) (ys : List Element) (x : Element) (s w : Tokens) (z : Went r b is literals ports regular first resting x s w)
        → Driven b past own s → Comes r past x → Stood s inner c → Came on_body inner
        → IsMatched b.body on_body (inside_by x s w z ++ ys) (cut_tokens b.cut b.body s) inner → Follows x s w c ys
    goes past own inner c ys x s w (is_seen z seen_so) driven comes stood came matched = follow past own inner c ys x s w z seen_so driven comes stood came matched
    goes past own inner c ys x s w (lost_inside k j v i none import at sees same) driven comes stood came matched =
        subst (λ (e : Element). Follows e s w c ys) (sym at) (follow_lost past own inner c ys k j v i none import s w sees same stood came matched)

    matches : (xs : List Element) (s t : Tokens) (past : List Pass) (hs : List Element) (o lo : Open) (holds : Holds r b is literals ports regular first resting s past hs o lo)
        (runs : Runs r xs s t) (turns : InputsKeepTurns r past xs) → Neat r s → (inner c : Config) → Stood s inner c → Came on_body inner
        → IsMatched b.body on_body (body_rest r b is literals ports regular first resting xs s t past hs o lo holds runs turns) (cut_tokens b.cut b.body s) inner
        → IsMatched r on_whole xs s c
    matches [] s t past hs o lo holds runs turns neat inner c stood came matched = (
      λ quiet. whole_waits s inner c stood holds.welcome quiet matched came,
      λ same. whole_rests s inner c stood neat matched same,
    )
    matches (x ∷ xs) s t past hs o lo holds (w, does, runs) turns neat inner c stood came matched =
        let one = one_on r b is literals ports regular first resting x xs s w past hs o lo holds does turns in
        let hs_on = hs ++ inside_by x s w one.went in
        let later = later_turns r past x xs turns in
        let ys = body_rest r b is literals ports regular first resting xs w t (after r x past) hs_on one.now one.lo one.holds runs later in
        let agrees = matched_agrees b.body on_body (inside_by x s w one.went ++ ys) (cut_tokens b.cut b.body s) inner matched in
        let on =
        goes past (passed b.body [] hs) inner c ys x s w one.went holds.driven (comes_of_turn r past x (first_turn r past x xs turns)) stood came matched in
        let more =
        matches xs w t (after r x past) hs_on one.now one.lo one.holds runs later (neat_step r x s w does neat) on.inner_to on.to on.stood on.came on.matched in (
          (λ quiet. whole_waits s inner c stood holds.welcome quiet agrees came, λ same. whole_rests s inner c stood neat agrees same),
          λ u also. (
            on.acts,
            on.to,
            on.moves,
            on.shown,
            on.goes_on,
            subst (λ a. IsMatched r on_whole xs a on.to) (one_state r x s w u does also) more,
          ),
        )

    pub matches_first : (xs : List Element) (s t : Tokens) (holds : Holds r b is literals ports regular first resting s [] [] none_open none_open) (runs : Runs r xs s t)
        (turns : InputsKeepTurns r [] xs) → IsIdle r s → Neat r s
        → IsMatched b.body on_body (body_rest r b is literals ports regular first resting xs s t [] [] none_open none_open holds runs turns) (cut_tokens b.cut b.body s) Idle
        → IsMatched r on_whole xs s Idle
    matches_first xs s t holds runs turns idle neat matched =
        matches xs s t [] [] none_open none_open holds runs turns neat Idle Idle (rests (idle.1 b.own) (idle.0 _ _) (idle.0 _ _) refl refl) ([], refl) matched
