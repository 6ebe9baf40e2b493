-- The plan of a block is regular where that of its body is, and rests after its answer where that does.
--
-- Each element leads on in the list of the body, which is regular as it is so far (`After`). At an input that stands in no joint the
-- body goes on, which has another end of its import.
use Rattle.std.specs.Prelude.{◌≡◌, ◌⊎◌, ℕ, Bool, true, false, All, Option, Some, None, List, [], ◌∷◌, ◌++◌}
use Rattle.std.proofs.Common.{refl, sym, ap, subst, inl, inr, ◌∙◌}
use Rattle.std.proofs.lemmas.Option.{same_Some}
use Rattle.std.proofs.lemmas.List.{append-nil}
use Rattle.gos_types.specs.declared.shakes.Role.TheVariants.{Ask}
use Rattle.gos_types.specs.Events.{Request, Answer}
use Rattle.gos_plan.specs.Kinds.{Contact}
use Rattle.gos_plan.specs.Plans.{End, ImportEnd, ResultEnd, Plan, contact_at}
use Rattle.gos_plan.specs.Tokens.{Tokens, Element, Out, In, places_of, way_put, Does, Runs, IsIdle}
use Rattle.gos_plan.specs.TokenBits.{LiteralFits}
use Rattle.gos_plan.specs.Orderly.{Open, none_open, with_open, ComesInOrder, AllWelcome, OrderlyFrom}
use Rattle.gos_joining.specs.webs.Cutting.{cut_tokens}
use Rattle.gos_joining.proofs.webs.IdleLemmas.{idle_is_cut}
use Rattle.gos_realises.specs.realises.Regular.{Pass, pass, way_in, is_open, ComesInTurn, KeepsTurns, InputsKeepTurns, OutputsKeepTurns, IsRegular}
use Rattle.gos_realises.proofs.realises.InputLemmas.{passed, InputTurns, first_turn, later_turns}
use Rattle.gos_realises.proofs.realises.IdleLemmas.{idle_welcome}
use Rattle.gos_realises.proofs.realises.PassLemmas.{open_otherwise}
use Rattle.gos_realises.proofs.realises.RingLemmas.{after, OutputTurns}
use Rattle.gos_sharing.proofs.behind.StepLemmas.{out_joined}
use Rattle.gos_nodes.specs.windows.Nodes.{IsRestful}
use Rattle.gos_nodes.proofs.parallel.GateLemmas.{gate, Same}
use Rattle.gos_nodes.proofs.parallel.HungLemmas.{Unseen, Sees, Local, fires, puts_out, takes_in}
use Rattle.gos_nodes.proofs.windows.RestLemmas.{closed_rests}
use Rattle.gos_nodes.proofs.windows.OpenLemmas.{ground_heard}
use Rattle.gos_nodes.proofs.windows.ClosingLemmas.{Ports, ports_after}
use Rattle.gos_nodes.proofs.windows.MeetLemmas.{Meets, IsUnjoined, HasPorts, heard_meets}
use Rattle.gos_nodes.proofs.windows.TurnLemmas.{Turned, closed_turned, open_before}
use Rattle.gos_nodes.proofs.parallel.LinkedLemmas.{Comes, past_all}
use Rattle.gos_nodes.proofs.parallel.HistoryLemmas.{passed_append, History, Grown, grow, grown, at_first}
use Rattle.gos_nodes.proofs.parallel.AskedLemmas.{peel}
use Rattle.gos_nodes.proofs.parallel.LooseLemmas.{loose_comes, loose_contact, loose_does, own_now}
use Rattle.gos_nodes.proofs.parallel.RegularLemmas.{comes_of_turn}
use Rattle.gos_nodes.proofs.parallel.QuietLemmas.{Neat, neat_step, neat_first}
use Rattle.gos_nodes.specs.blocks.Block.{Block, IsBlock, OpenBlockIsRegular, OpenBlockIsRestful, BlockIsRegular}
use Rattle.gos_nodes.proofs.blocks.RegionLemmas.{body_done}
use Rattle.gos_nodes.proofs.blocks.StepLemmas.{Step, of_body, asked, told, starts, supplies, ended, lost, IsSeen, step, Sound, sound_on, sound_first}
use Rattle.gos_nodes.proofs.blocks.LinkedLemmas.{Stage, when_told, Driven, seen, seen_runs, driven_step, driven_first}
use Rattle.gos_nodes.proofs.blocks.SharedLemmas.{body_ports, not_place, Shared, shared_first, shared_pass, whole_turned, shared_step, body_input, seen_inputs}
use Rattle.gos_nodes.proofs.blocks.OutputLemmas.{output_turn}
use Rattle.gos_nodes.proofs.blocks.OrderLemmas.{Opened, welcome_all, Next, order_step, opened_first}
use Rattle.gos_nodes.proofs.blocks.QuietLemmas.{whole_idle}
use Rattle.gos_nodes.proofs.blocks.LooseLemmas.{opened_loose}

module _
    (r : Plan) (b : Block) (is : IsBlock r b) (literals : All LiteralFits r.parts) (ports : HasPorts r b.cut b.body) (regular : IsRegular b.body) (first : Tokens)
    (rests : IsIdle r first) where
  abbrev Inside : Tokens → Tokens
  Inside = cut_tokens b.cut b.body

  abbrev SharedHere : List Pass → List Pass → Type 0
  SharedHere = Shared r b is ports

  body_idle : IsIdle b.body (Inside first)
  body_idle = idle_is_cut b.cut r b.body first rests

  -- where the whole is, and its body is
  pub record Holds (s : Tokens) (past : List Pass) (hs : List Element) (o lo : Open) : Type 0 where
    pub driven : Driven b past (passed b.body [] hs) s
    shared : SharedHere past (passed b.body [] hs)
    pub body : History b.body (Inside first) (Inside s) hs lo
    opened : Opened r b is literals past o lo s
    pub sound : Sound r b s
    pub welcome : AllWelcome r s
    open_ports : Ports r is.cut.whole_right o past

  -- which step an element is: one that the body sees by itself, or an input at an end in no joint
  pub data Went (x : Element) (s w : Tokens) : Type 0 where
    is_seen : (z : Step r b x s w) → IsSeen r b x s w z → Went x s w
    lost_inside :
        (k n v i : ℕ) (none : IsUnjoined r b.cut b.body i n)
        → none.import ≡ k → x ≡ In (ImportEnd k n) v → Sees b.cut b.body (In (ImportEnd i n) v) s w → Same b.own s w → Went x s w

  abbrev pub inside_of : (x : Element) (s w : Tokens) → Went x s w → List Element
  inside_of x s w (is_seen z seen_so) = seen r b is literals x s w z
  inside_of x s w (lost_inside k n v i none import at sees same) = In (ImportEnd i n) v ∷ []

  pub record After (x : Element) (s w : Tokens) (past : List Pass) (hs : List Element) (o : Open) : Type 0 where
    pub went : Went x s w
    pub now : Open
    pub lo : Open
    comes : ComesInOrder r x s o now
    welcome : AllWelcome r w
    pub holds : Holds w (after r x past) (hs ++ inside_of x s w went) now lo
    output : OutputTurns r past x

  -- one element more
  module _ (x : Element) (s w : Tokens) (past : List Pass) (hs : List Element) (o lo : Open) (holds : Holds s past hs o lo) (does : Does r x s w) where
    abbrev own : List Pass
    own = passed b.body [] hs

    finish : (went : Went x s w) (next : Grown b.body (Inside first) (Inside s) (Inside w) hs (inside_of x s w went) lo)
        → Driven b (after r x past) (past_all b.body (inside_of x s w went) own) w
        → SharedHere (after r x past) (past_all b.body (inside_of x s w went) own) → (now own_now : Open) → ComesInOrder r x s o now → Opened r b is literals (after r x past) now own_now w
        → next.now ≡ own_now → AllWelcome b.body (Inside w) → (Turned r (after r x past) → OutputTurns r past x) → After x s w past hs o
    finish went next driven shared now own_now comes opened same welcome output =
        record {
          went = went;
          now = now;
          lo = own_now;
          comes = comes;
          welcome = welcome_now;
          holds =
              record {
                driven = driven_on;
                shared = shared_on;
                body = history;
                opened = opened;
                sound = sound_on r b is literals x s w holds.sound does;
                welcome = welcome_now;
                open_ports = ports_after r is.cut.whole_right x o now s w past does comes holds.open_ports;
              };
          output = output (whole_turned r b is ports (after r x past) (passed b.body [] (hs ++ ys)) w driven_on shared_on next.turned);
        }
      where
        ys : List Element
        ys = inside_of x s w went

        own_past : past_all b.body ys own ≡ passed b.body [] (hs ++ ys)
        own_past = sym (passed_append b.body [] hs ys)

        driven_on : Driven b (after r x past) (passed b.body [] (hs ++ ys)) w
        driven_on = subst (λ (l : List Pass). Driven b (after r x past) l w) own_past driven

        shared_on : SharedHere (after r x past) (passed b.body [] (hs ++ ys))
        shared_on = subst (λ (l : List Pass). SharedHere (after r x past) l) own_past shared

        history : History b.body (Inside first) (Inside w) (hs ++ ys) own_now
        history = grown b.body (Inside first) (Inside s) (Inside w) hs ys lo own_now next same welcome

        ready : (e : End) (v : ℕ) (u : Tokens) → Does b.body (Out e v) (Inside w) u → OutputsKeepTurns b.body (passed b.body [] (hs ++ ys)) (Out e v ∷ [])
        ready e v u one =
            let further =
            grow b.body regular (Inside first) (Inside w) u (hs ++ ys) (Out e v ∷ []) own_now body_idle history (u, one, refl) tt in
            further.outputs

        welcome_now : AllWelcome r w
        welcome_now =
            welcome_all r b is literals w (after r x past) (passed b.body [] (hs ++ ys)) now own_now driven_on next.turned ready opened welcome

    seen_step : (z : Step r b x s w) → IsSeen r b x s w z → InputTurns r past x → After x s w past hs o
    seen_step z seen_so turn =
        finish (is_seen z seen_so) next (driven_step r b is literals x s w z past own holds.driven comes_in) (shared_step r b is ports literals x s w z seen_so past own holds.shared) one.open_now
        one.own_now one.comes one.opened one.rest.0 one.welcome
        (λ turned.
        output_turn r b is literals ports x s w z past own [] holds.driven holds.shared
        (subst (λ (l : List Element). OutputsKeepTurns b.body own l) (sym (append-nil ys)) next.outputs) turned)
      where
        ys : List Element
        ys = seen r b is literals x s w z

        comes_in : Comes r past x
        comes_in = comes_of_turn r past x turn

        next : Grown b.body (Inside first) (Inside s) (Inside w) hs ys lo
        next =
            grow b.body regular (Inside first) (Inside s) (Inside w) hs ys lo body_idle holds.body
            (subst (λ (l : List Element). Runs b.body l (Inside s) (Inside w)) (append-nil ys) (seen_runs r b is literals x s w z [] (Inside w) refl))
            (seen_inputs r b is ports literals x s w z past own holds.driven holds.shared holds.body.turned turn)

        one : Next r b is literals x s w past o [] next.now (Inside w)
        one =
            order_step r b is literals past own o lo next.now (Inside w) [] x s w z seen_so does holds.driven comes_in holds.opened holds.body.welcome
            (subst (λ (l : List Element). OrderlyFrom b.body l lo (Inside s) next.now (Inside w)) (sym (append-nil ys)) next.piece)

  -- an input at an end that stands in no joint
  module _
      (k n v : ℕ) (s w : Tokens) (past : List Pass) (hs : List Element) (o lo : Open) (holds : Holds s past hs o lo) (does : Does r (In (ImportEnd k n) v) s w)
      (turn : KeepsTurns r past (pass (ImportEnd k n) (way_in (contact_at r (ImportEnd k n))))) (c : Contact) (there : contact_at r (ImportEnd k n) ≡ Some c)
      (not_inside : b.cut.inner (ImportEnd k n) ≡ None) (unseen : Unseen b.cut b.body s w) (same : Same b.own s w) where
    abbrev whole_passed : List Pass
    whole_passed = after r (In (ImportEnd k n) v) past

    abbrev opened_now : Open
    opened_now = with_open (ImportEnd k n) true o

    shut : c.role ≡ Ask → o (ImportEnd k n) ≡ false
    shut asks = by_test (o (ImportEnd k n)) refl
      where
        by_test : (t : Bool) → o (ImportEnd k n) ≡ t → t ≡ false
        by_test false t = refl
        by_test true up =
            let (inside, held) = holds.open_ports (ImportEnd k n) tt up in
            sym held ∙ subst (ComesInTurn past (ImportEnd k n)) (ap way_in there ∙ ap way_put asks) turn.0

    input_inside : (i : ℕ) → (none : IsUnjoined r b.cut b.body i n) → none.import ≡ k → After (In (ImportEnd k n) v) s w past hs o
    input_inside i none import =
        finish (In (ImportEnd k n) v) s w past hs o lo holds does (lost_inside k n v i none import refl own_does same) next driven shared opened_now (with_open (ImportEnd i n) true lo) comes
        (opened_loose r b is k n not_inside literals v s w past o lo holds.opened same does comes i leads) own_is one.2 (λ turned. tt)
      where
        ys : List Element
        ys = In (ImportEnd i n) v ∷ []

        leads : b.cut.outer (ImportEnd i n) ≡ ImportEnd k n
        leads = none.outer ∙ ap (λ (m : ℕ). ImportEnd m n) import

        at_whole : contact_at r (ImportEnd k n) ≡ Some none.contact
        at_whole = ap (λ (m : ℕ). contact_at r (ImportEnd m n)) (sym import) ∙ loose_contact r b.cut b.body i n none

        asks : c.role ≡ Ask
        asks = ap (λ (x : Contact). x.role) (same_Some c none.contact (sym there ∙ at_whole)) ∙ none.asks

        nowhere : places_of r (ImportEnd k n) ≡ None
        nowhere = ap (λ (m : ℕ). places_of r (ImportEnd m n)) (sym import) ∙ none.none

        own_does : Sees b.cut b.body (In (ImportEnd i n) v) s w
        own_does = loose_does r b.cut b.body i n none v s w (subst (λ (m : ℕ). Does r (In (ImportEnd m n) v) s w) (sym import) does) unseen

        next : Grown b.body (Inside first) (Inside s) (Inside w) hs ys lo
        next =
            grow b.body regular (Inside first) (Inside s) (Inside w) hs ys lo body_idle holds.body (Inside w, own_does, refl)
            (body_input r b is ports past (passed b.body [] hs) s holds.driven holds.shared holds.body.turned i n k (inr none) leads turn, tt)

        driven : Driven b whole_passed (past_all b.body ys (passed b.body [] hs)) w
        driven =
            let now =
            driven_step r b is literals (In (ImportEnd k n) v) s w (lost k n v s w c there not_inside unseen same) past (passed b.body [] hs) holds.driven turn.0 in
            let way = way_in (contact_at b.body (ImportEnd i n)) in
            record {
              result = now.result;
              variable = λ h.
                  open_otherwise (ImportEnd i n) (ImportEnd b.place h) way (passed b.body [] hs)
                  (λ e. let place : i ≡ b.place = cc e in not_place r b is ports i n k leads place)
                  ∙ now.variable h;
              stage = now.stage;
            }

        comes : ComesInOrder r (In (ImportEnd k n) v) s o opened_now
        comes = loose_comes r k n c there asks nowhere v s o (shut asks)

        shared : SharedHere whole_passed (past_all b.body ys (passed b.body [] hs))
        shared =
            subst (λ (x : Option Contact). SharedHere whole_passed (pass (ImportEnd i n) (way_in x) ∷ passed b.body [] hs)) (at_whole ∙ sym none.own)
            (shared_pass r b is ports past (passed b.body [] hs) holds.shared i n k (inr none) leads (way_in (contact_at r (ImportEnd k n))))

        one : (m : Open) × ComesInOrder b.body (In (ImportEnd i n) v) (Inside s) lo m × AllWelcome b.body (Inside w) × OrderlyFrom b.body [] m (Inside w) next.now (Inside w)
        one = peel b.body (In (ImportEnd i n) v) [] lo next.now (Inside s) (Inside w) (Inside w) own_does next.piece

        own_is : next.now ≡ with_open (ImportEnd i n) true lo
        own_is = one.3.0 ∙ own_now r b.cut b.body i n none v (Inside s) lo one.0 one.1

    met_inside : (i : ℕ) → Meets r b.cut b.body i n → b.cut.outer (ImportEnd i n) ≡ ImportEnd k n → After (In (ImportEnd k n) v) s w past hs o
    met_inside i (inl joined) leads =
        let clash : None ≡ Some (ImportEnd i n) = sym not_inside ∙ (ap b.cut.inner (sym leads) ∙ (is.cut.ports (ImportEnd i n) tt joined.stands).1) in absurd (cc clash)
    met_inside i (inr none) leads =
        let both : ImportEnd none.import n ≡ ImportEnd k n = sym none.outer ∙ leads in
        let import : none.import ≡ k = cc both in input_inside i none import

    by_which : (m : ℕ) → (m ≡ n) ⊎ (c.role ≡ Ask) → (i : ℕ) → Meets r b.cut b.body i m → b.cut.outer (ImportEnd i m) ≡ ImportEnd k m → After (In (ImportEnd k n) v) s w past hs o
    by_which m (inl same) i meets leads =
        met_inside i (subst (λ (y : ℕ). Meets r b.cut b.body i y) same meets) (subst (λ (y : ℕ). b.cut.outer (ImportEnd i y) ≡ ImportEnd k y) same leads)
    by_which m (inr asks) i meets leads = let (here, at) = heard_meets r b.cut b.body ports i m k n c meets leads there asks in met_inside i here at

    lost_step : After (In (ImportEnd k n) v) s w past hs o
    lost_step =
        let (m, up, which) = open_before r past k n c there turn in
        let (i, meets, leads) = holds.shared.only k m up in
        by_which m which i meets leads

  pub next_of : (x : Element) (s w : Tokens) (past : List Pass) (hs : List Element) (o lo : Open) → Holds s past hs o lo → Does r x s w → InputTurns r past x → Step r b x s w
      → After x s w past hs o
  next_of x s w past hs o lo holds does turn (lost j k v s' w' c there none unseen same) = lost_step j k v s' w' past hs o lo holds does turn c there none unseen same
  next_of x s w past hs o lo holds does turn (of_body x' y s' w' local sees same) = seen_step x' s' w' past hs o lo holds does (of_body x' y s' w' local sees same) tt turn
  next_of x s w past hs o lo holds does turn (asked v s' w' small unseen state ask ans) =
      seen_step x s' w' past hs o lo holds does (asked v s' w' small unseen state ask ans) tt turn
  next_of x s w past hs o lo holds does turn (told v s' w' unseen state ans none ask) =
      seen_step x s' w' past hs o lo holds does (told v s' w' unseen state ans none ask) tt turn
  next_of x s w past hs o lo holds does turn (starts s' w' z) = seen_step x s' w' past hs o lo holds does (starts s' w' z) tt turn
  next_of x s w past hs o lo holds does turn (supplies slot s' w' z) = seen_step x s' w' past hs o lo holds does (supplies slot s' w' z) tt turn
  next_of x s w past hs o lo holds does turn (ended s' w' z) = seen_step x s' w' past hs o lo holds does (ended s' w' z) tt turn

  along : (xs : List Element) (s t : Tokens) (past : List Pass) (hs : List Element) (o lo : Open) → Holds s past hs o lo → Runs r xs s t → InputsKeepTurns r past xs
      → ((u : Open) × (w : Tokens) × OrderlyFrom r xs o s u w) × OutputsKeepTurns r past xs
  along [] s t past hs o lo holds runs turns = ((o, s, (refl, refl)), tt)
  along (x ∷ xs) s t past hs o lo holds (w, does, runs) turns =
      let one = next_of x s w past hs o lo holds does (first_turn r past x xs turns) (step r b is literals x s w holds.sound does) in
      let ((u, z, rest), outputs) = along xs w t (after r x past) (hs ++ inside_of x s w one.went) one.now one.lo one.holds runs (later_turns r past x xs turns) in
      ((u, z, (one.now, w, does, one.comes, one.welcome, rest)), out_joined r past x xs one.output outputs)

  pub holds_first : Holds first [] [] none_open none_open
  holds_first =
      record {
        driven = driven_first r b is literals first rests;
        shared = shared_first r b is ports;
        body =
            at_first b.body (Inside first) (closed_turned b.body (body_done r b is) [] (λ k h. refl)) (idle_welcome b.body (Inside first) body_idle);
        opened = opened_first r b is literals first rests;
        sound = sound_first r b is first rests;
        welcome = idle_welcome r first rests;
        open_ports = λ e port up. absurd (cc up);
      }

  -- where the whole is before the last element of a list
  record Reached (x : Element) (t : Tokens) : Type 0 where
    s : Tokens
    past : List Pass
    hs : List Element
    o : Open
    lo : Open
    holds : Holds s past hs o lo
    neat : Neat r s
    does : Does r x s t

  reach : (xs : List Element) (x : Element) (s t : Tokens) (past : List Pass) (hs : List Element) (o lo : Open) → Holds s past hs o lo → Neat r s
      → Runs r (xs ++ x ∷ []) s t → InputsKeepTurns r past (xs ++ x ∷ []) → Reached x t
  reach [] x s t past hs o lo holds neat (w, does, is_t) turns =
      record {
        s = s;
        past = past;
        hs = hs;
        o = o;
        lo = lo;
        holds = holds;
        neat = neat;
        does = subst (λ (y : Tokens). Does r x s y) (sym is_t) does;
      }
  reach (y ∷ ys) x s t past hs o lo holds neat (w, does, runs) turns =
      let one = next_of y s w past hs o lo holds does (first_turn r past y (ys ++ x ∷ []) turns) (step r b is literals y s w holds.sound does) in
      reach ys x w t (after r y past) (hs ++ inside_of y s w one.went) one.now one.lo one.holds (neat_step r y s w does neat) runs (later_turns r past y (ys ++ x ∷ []) turns)

  -- the answer leads to rest
  local_apart : (x y : Element) (v : ℕ) → Local b.cut r b.body x y → x ≡ Out (ResultEnd 0) v → ⊥
  local_apart x y v (fires i j k number) is_out = cc is_out
  local_apart x y v (puts_out i j k n stands leads slices) is_out = cc is_out
  local_apart x y v (takes_in i j k n stands leads slices) is_out = cc is_out

  last_of : (x : Element) (s w : Tokens) → Step r b x s w → (v : ℕ) (past : List Pass) → x ≡ Out (ResultEnd 0) v
      → Stage b.server.runs (is_open past (ResultEnd 0)) (s.state b.own).phase (gate s Request) (gate s Answer) → (b.server.runs (s.state b.own).phase ≡ false → IsIdle b.body (Inside s))
      → Neat r w → IsIdle r w
  last_of x s w (told n s' w' unseen state ans none ask) v past is_out stage idle neat =
      let (opened, rest, empty) = when_told b.server.runs is.server.rests (is_open past (ResultEnd 0)) (s'.state b.own).phase (gate s' Request) (gate s' Answer) n stage ans in
      whole_idle r b is literals w' neat (subst (IsIdle b.body) (sym unseen) (idle (ap b.server.runs rest ∙ is.server.rests))) (ap (λ c. c.phase) state ∙ rest) (ask ∙ empty) none
  last_of x s w (of_body x' y s' w' local sees same) v past is_out stage idle neat = absurd (local_apart x' y v local is_out)
  last_of x s w (asked n s' w' small unseen state ask ans) v past is_out stage idle neat = absurd (cc is_out)
  last_of x s w (starts s' w' z) v past is_out stage idle neat = absurd (cc is_out)
  last_of x s w (supplies slot s' w' z) v past is_out stage idle neat = absurd (cc is_out)
  last_of x s w (ended s' w' z) v past is_out stage idle neat = absurd (cc is_out)
  last_of x s w (lost j k n s' w' c there none unseen same) v past is_out stage idle neat = absurd (cc is_out)

  last_rests : IsRestful b.body → (v : ℕ) (t : Tokens) → Reached (Out (ResultEnd 0) v) t → IsIdle r t
  last_rests restful v t there =
      last_of (Out (ResultEnd 0) v) there.s t (step r b is literals (Out (ResultEnd 0) v) there.s t there.holds.sound there.does) v there.past refl there.holds.driven.stage
      (λ shut.
      closed_rests b.body there.hs (Inside first) (Inside there.s) (body_done r b is) regular restful body_idle there.holds.body.runs there.holds.body.inputs
      (there.holds.driven.result ∙ shut))
      (neat_step r (Out (ResultEnd 0) v) there.s t there.does there.neat)

pub open_block_is_regular : OpenBlockIsRegular
open_block_is_regular r b is heard literals names body_names regular s t xs rests runs turns =
    let ports = body_ports r b is heard names body_names in
    along r b is literals ports regular s rests xs s t [] [] none_open none_open (holds_first r b is literals ports regular s rests) runs turns

pub open_block_is_restful : OpenBlockIsRestful
open_block_is_restful r b is heard literals names body_names regular restful s t xs v rests runs turns =
    let ports = body_ports r b is heard names body_names in
    let there =
    reach r b is literals ports regular s rests xs (Out (ResultEnd 0) v) s t [] [] none_open none_open (holds_first r b is literals ports regular s rests) (neat_first r s rests)
    runs turns in
    last_rests r b is literals ports regular s rests restful v t there

pub block_is_regular : BlockIsRegular
block_is_regular r b is literals ground names body_ground body_names regular =
    open_block_is_regular r b is (ground_heard b.cut r b.body body_ground (body_done r b is)) literals names body_names regular
