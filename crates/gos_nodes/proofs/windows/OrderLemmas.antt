-- The lists of a whole that runs stages are orderly.
--
-- At rest no handshake is open; while the own part is asked or has answered only the result's is; and while a stage runs those
-- that are open in the stage. After its answer none of these is.
use Rattle.std.specs.Prelude.{None, slice_get, Contains}
use Rattle.std.proofs.Common.{◌≡◌, ℕ, Bool, true, false, List, [], ◌∷◌, ◌++◌, Option, Some, inl, inr, refl, sym, ◌∙◌, ap, subst, if◌then◌else◌}
use Rattle.std.proofs.lemmas.Bool.{ne_eqb}
use Rattle.gos_types.specs.Events.{Direction, Request, Answer}
use Rattle.gos_types.proofs.BoolLemmas.{true_is_not_false, else_true}
use Rattle.gos_plan.specs.Kinds.{Part, Contact, asks}
use Rattle.gos_plan.specs.Firing.{Phase, Slot, Req, Ans, Token, Row, at, put, firing}
use Rattle.gos_plan.specs.Plans.{End, PartEnd, ImportEnd, ResultEnd, Plan, contact_at, same_end}
use Rattle.gos_plan.specs.Tokens.{Tokens, Element, Fire, Out, In, IsPortEnd, places_of, held_at, token_at, with_token, with_state, end_of, way_of, way_taken, way_put, firing_of, Does, Runs, IsIdle}
use Rattle.gos_plan.specs.TokenBits.{AllFit}
use Rattle.gos_plan.specs.Turns.{IsEmptyAt}
use Rattle.gos_plan.specs.Orderly.{named_by, handshake_at, Open, none_open, with_open, after_taken, after_put, after_puts, ComesWell, AllComeWell, ComesInOrder, AllWelcome, OrderlyFrom, IsOrderly}
use Rattle.gos_plan.proofs.JointLemmas.{IsIn, same_is, same_itself, fits, serving_role, contained}
use Rattle.gos_plan.proofs.TokenBitsLemmas.{idle_fits}
use Rattle.gos_plan.proofs.HeldLemmas.{takes_of}
use Rattle.gos_plan.proofs.ElementLemmas.{orderly_then}
use Rattle.gos_realises.specs.realises.Regular.{Pass, pass, way_in, is_open, ComesInTurn, InputsKeepTurns, IsRegular}
use Rattle.gos_realises.proofs.realises.InputLemmas.{passed, passed_then, inputs_then, InputTurns, first_turn, later_turns, last_order, runs_then, in_there, out_there, result_asks}
use Rattle.gos_realises.proofs.realises.IdleLemmas.{idle_token}
use Rattle.gos_realises.proofs.realises.RingLemmas.{after}
use Rattle.gos_joining.specs.webs.Webs.{joint}
use Rattle.gos_joining.specs.webs.Cutting.{lies_at, StandsIn}
use Rattle.gos_joining.proofs.webs.CutLemmas.{Owns}
use Rattle.gos_nodes.specs.windows.Regions.{whole_element}
use Rattle.gos_nodes.specs.windows.Nodes.{Stage, IsRestful}
use Rattle.gos_nodes.proofs.windows.RunnerLemmas.{IsAskedStage, RunsStages, AreRestful}
use Rattle.gos_nodes.proofs.windows.AskedLemmas.{asked_role, asked_out, ground_port, answered_shut}
use Rattle.gos_nodes.specs.windows.Windows.{Runner, seen, HoldsOnly}
use Rattle.gos_nodes.proofs.windows.PortLemmas.{port_end, stands_contact}
use Rattle.gos_nodes.proofs.windows.StageLemmas.{Emptied, stage, own_stands}
use Rattle.gos_nodes.proofs.windows.TurnLemmas.{OnlyResult, NoneOpen}
use Rattle.gos_nodes.proofs.windows.WholeLemmas as whole
use Rattle.gos_nodes.proofs.windows.WholeLemmas.{only_there, done, result_place, own_place, run_stands, Going, Led}
use Rattle.gos_nodes.proofs.windows.NodeLemmas.{request_slot, Place, AtRest, AtAsked, AtStage, AtAnswer, Holds, rest_step, asked_step, answer_step, own_slot}
use Rattle.gos_nodes.proofs.windows.OneSessionLemmas.{open_is_one, ended_is_one}
use Rattle.gos_nodes.proofs.windows.WindowLemmas.{StageStep, OwnStep, stage_step, fit_after}
use Rattle.gos_nodes.proofs.windows.OutputLemmas.{outputs_in_turn, is_restful}
use Rattle.gos_nodes.proofs.windows.MatchLemmas.{Opens, Beside, stage_order, stage_welcome, taken_opens, stands_agree, not_result}
use Rattle.gos_nodes.proofs.windows.OpensLemmas.{IsThere}
use Rattle.gos_nodes.proofs.windows.ClosingLemmas.{Ports, open_idle_is_closed, asks_itself, ports_after, ports_along}
use Rattle.gos_nodes.proofs.windows.FollowLemmas.{imports_shut}

-- the result's handshake alone is open
abbrev OnlyOpen : Open → Type 0
OnlyOpen o = (o (ResultEnd 0) ≡ true) × ((x : End) → o x ≡ true → x ≡ ResultEnd 0)

shut_at : (o : Open) → OnlyOpen o → (x : End) → (x ≡ ResultEnd 0 → ⊥) → o x ≡ false
shut_at o only x apart = by_test (o x) refl
  where
    by_test : (b : Bool) → o x ≡ b → b ≡ false
    by_test false t = refl
    by_test true up = absurd (apart (only.1 x up))

module _ (r : Plan) (d : ℕ) (runner : Runner) (gs : List Stage) (node : RunsStages r d runner gs) (restful : AreRestful runner gs) where
  abbrev run : ℕ
  run = runner.run

  -- a stage's list so far is orderly, and what it leaves open is what is open in the whole
  record Orders (g : Stage) (has : Contains gs g) (hs : List Element) (before s : Tokens) (o : Open) : Type 0 where
    own : Open
    orderly : OrderlyFrom g.plan hs none_open before own (seen g s)
    opens : Opens r d runner gs node g has own o

  abbrev OrderHolds : Place gs → Open → Tokens → Type 0
  OrderHolds AtRest o s = (x : End) → o x ≡ false
  OrderHolds AtAsked o s = OnlyOpen o
  OrderHolds (AtStage g has hs before) o s = Orders g has hs before s o
  OrderHolds (AtAnswer v) o s = OnlyOpen o

  -- names of the own part's handshakes
  result_named : handshake_at r (ResultEnd 0) ≡ ResultEnd 0
  result_named = ap (λ (x : Option End). named_by x (ResultEnd 0)) (result_place r d runner gs node)

  run_named : handshake_at r (PartEnd d run) ≡ ResultEnd 0
  run_named = ap (λ (x : Option End). named_by x (PartEnd d run)) (own_place r d runner gs node)

  module _ (g : Stage) (has : Contains gs g) where
    there : IsAskedStage r d runner g
    there = stage r d runner gs node.base g has

    stage_named : handshake_at g.plan (ResultEnd (runner.asked g)) ≡ ResultEnd (runner.asked g)
    stage_named =
        asks_itself g.plan there.region.right (ResultEnd (runner.asked g)) (asks (runner.request_bits g) (runner.answer_bits g)) there.asked.contact refl

    asked_named : ((x : End) → places_of r (PartEnd d g.asked_at) ≡ Some x → StandsIn g.plan (ResultEnd (runner.asked g))) → handshake_at r (PartEnd d g.asked_at) ≡ PartEnd d g.asked_at
    asked_named joined = by_place (places_of r (PartEnd d g.asked_at)) refl
      where
        of_stage : StandsIn g.plan (ResultEnd (runner.asked g)) → handshake_at r (PartEnd d g.asked_at) ≡ PartEnd d g.asked_at
        of_stage stands =
            let (c, at_end) = stands_contact g.plan there.region.right (ResultEnd (runner.asked g)) stands in
            let role = sym (asked_role g.plan _ _ _ there.asked c at_end) in
            let in_whole = ap (contact_at r) (sym (there.run_by stands)) ∙ (there.region.contacts (ResultEnd (runner.asked g)) tt stands ∙ at_end) in
            asks_itself r node.base.right (PartEnd d g.asked_at) c in_whole role

        by_place : (o : Option End) → places_of r (PartEnd d g.asked_at) ≡ o → handshake_at r (PartEnd d g.asked_at) ≡ PartEnd d g.asked_at
        by_place None none = ap (λ (x : Option End). named_by x (PartEnd d g.asked_at)) none
        by_place (Some x) named = of_stage (joined x named)

    -- asked, its own result alone is open in it
    first_opens : (o : Open) → OnlyOpen o → ((x : End) → places_of r (PartEnd d g.asked_at) ≡ Some x → StandsIn g.plan (ResultEnd (runner.asked g)))
        → Opens r d runner gs node g has (with_open (ResultEnd (runner.asked g)) true none_open) (with_open (PartEnd d g.asked_at) true o)
    first_opens o only joined =
        record {
          kept = λ x is. ap (with_open (PartEnd d g.asked_at) true o) is ∙ only.0;
          same = λ e owned. by_end e owned (same_end (lies_at g.cut e) (PartEnd d g.asked_at)) refl;
          only = λ x up. by_test x (same_end x (PartEnd d g.asked_at)) refl up;
        }
      where
        shut : (e : End) → Owns g.plan e → o (lies_at g.cut e) ≡ false
        shut e owned = shut_at o only (lies_at g.cut e) (λ is. not_result r d runner gs node g has e owned (sym is))

        is_result : (e : End) → Owns g.plan e → lies_at g.cut e ≡ PartEnd d g.asked_at → e ≡ ResultEnd (runner.asked g)
        is_result (PartEnd i h) (k, is) lies =
            let part : g.cut.part i ≡ d = cc lies in
            let clash : None ≡ Some i = sym there.outside ∙ (ap g.cut.number (sym part) ∙ (there.region.parts i k is).1) in absurd (cc clash)
        is_result (ImportEnd i h) stands lies =
            let (k, at_k, same) = there.ports i h stands in
            let clash : ImportEnd k h ≡ PartEnd d g.asked_at = sym at_k ∙ lies in absurd (cc clash)
        is_result (ResultEnd h) stands lies = ap ResultEnd (there.only h stands)

        lies_there : (e : End) → Owns g.plan e → e ≡ ResultEnd (runner.asked g) → lies_at g.cut e ≡ PartEnd d g.asked_at
        lies_there e owned is = ap (lies_at g.cut) is ∙ there.run_by (subst (λ (x : End). Owns g.plan x) is owned)

        by_own : (e : End) → Owns g.plan e → (b : Bool) → same_end e (ResultEnd (runner.asked g)) ≡ b → same_end (lies_at g.cut e) (PartEnd d g.asked_at) ≡ false → false ≡ (if b then true else false)
        by_own e owned false t apart = refl
        by_own e owned true t apart =
            let is = lies_there e owned (same_is e (ResultEnd (runner.asked g)) t) in
            let same : same_end (lies_at g.cut e) (PartEnd d g.asked_at) ≡ true =
            ap (λ (x : End). same_end x (PartEnd d g.asked_at)) is ∙ same_itself (PartEnd d g.asked_at) in absurd (true_is_not_false (same_end (lies_at g.cut e) (PartEnd d g.asked_at)) same apart)

        by_end : (e : End) → Owns g.plan e → (b : Bool) → same_end (lies_at g.cut e) (PartEnd d g.asked_at) ≡ b
            → (if b then true else o (lies_at g.cut e)) ≡ (if same_end e (ResultEnd (runner.asked g)) then true else false)
        by_end e owned true t =
            let is = is_result e owned (same_is (lies_at g.cut e) (PartEnd d g.asked_at) t) in
            sym
            (ap (λ (x : End). if same_end x (ResultEnd (runner.asked g)) then true else false) is
            ∙ ap (λ (b : Bool). if b then true else false) (same_itself (ResultEnd (runner.asked g))))
        by_end e owned false t = shut e owned ∙ by_own e owned (same_end e (ResultEnd (runner.asked g))) refl t

        by_test : (x : End) (b : Bool) → same_end x (PartEnd d g.asked_at) ≡ b → (if b then true else o x) ≡ true
            → IsThere g.cut r g.plan (Beside r d runner gs node g has) x
        by_test x true t up = inl (inr (same_is x (PartEnd d g.asked_at) t))
        by_test x false t up = inl (inl (only.1 x up))

  -- a firing of the own part, that puts one token
  own_order : (slot : Slot) (v : ℕ) (row : Row) (s : Tokens) (o : Open) (x : Token) → token_at r s (end_of d slot) (way_of slot) ≡ Some v
      → firing_of (slice_get r.parts d) (s.state d) slot ≡ Some row → row.puts v ≡ x ∷ []
      → ComesWell r (end_of d x.slot) (way_of x.slot) (after_taken r (end_of d slot) (way_of slot) o)
      (with_state d (row.next v) (with_token r (end_of d row.takes) (way_of row.takes) None s))
      → ComesInOrder r (Fire d slot) s o (after_put r (end_of d x.slot) (way_of x.slot) (after_taken r (end_of d slot) (way_of slot) o))
  own_order slot v row s o x held by puts well n y lying fires =
      let value : v ≡ n = cc (held, lying) in
      let is : row ≡ y = cc (by, fires) in
      subst (λ (z : Row). AllComeWell r d (z.puts n) before (between n z) × (now ≡ after_puts r d (z.puts n) before)) is
      (subst (λ (n : ℕ). AllComeWell r d (row.puts n) before (between n row) × (now ≡ after_puts r d (row.puts n) before)) value
      (subst (λ (ts : List Token). AllComeWell r d ts before (between v row) × (now ≡ after_puts r d ts before)) (sym puts) ((well, tt), refl)))
    where
      before : Open
      before = after_taken r (end_of d slot) (way_of slot) o

      now : Open
      now = after_put r (end_of d x.slot) (way_of x.slot) (after_taken r (end_of d slot) (way_of slot) o)

      between : ℕ → Row → Tokens
      between n z = with_state d (z.next n) (with_token r (end_of d z.takes) (way_of z.takes) None s)

  empty_at : (u : Tokens) → Emptied d u → (e : End) → IsEmptyAt r u e
  empty_at u empty e way = by_place (places_of r e)
    where
      by_place : (o : Option End) → held_at u way o ≡ None
      by_place None = refl
      by_place (Some x) = empty.places way x

  -- where the whole is, what is open there, and that what lies is welcome
  record OrderNext (x : Element) (s t : Tokens) (past : List Pass) (o : Open) : Type 0 where
    place : Place gs
    holds : Holds r d runner gs node place t past
    now : Open
    comes : ComesInOrder r x s o now
    welcome : AllWelcome r t
    order : OrderHolds place now t

  -- at the result's joint
  answer_welcome : (k : ℕ) (t : Tokens) → HoldsOnly r (ResultEnd 0) Answer k t → AllWelcome r t
  answer_welcome k t holding i slot c v at_end way held =
      let (is_answer, places, value) = only_there r (ResultEnd 0) Answer k t holding (end_of i slot) (way_of slot) v held in
      let (part, shake) = own_slot r d runner gs node i slot Answer is_answer (places ∙ result_place r d runner gs node) in
      let ends : end_of i slot ≡ PartEnd d run = λ l. PartEnd (part l) (shake l) in
      let is_in : IsIn (joint (ResultEnd 0) (PartEnd d run)) r.joints = contained r.joints (joint (ResultEnd 0) (PartEnd d run)) node.result in
      let serves = serving_role r (joint (ResultEnd 0) (PartEnd d run)) c (fits r [] r.joints (joint (ResultEnd 0) (PartEnd d run)) node.base.right is_in) (ap (contact_at r) (sym ends) ∙ at_end) in
      let clash : Request ≡ Answer = sym (ap way_taken serves) ∙ (way ∙ is_answer) in absurd (cc clash)

  asked_welcome : (t : Tokens) → HoldsOnly r (PartEnd d run) Request 0 t → AllWelcome r t
  asked_welcome t holding i slot c v at_end way held =
      let (is_request, places, value) = only_there r (PartEnd d run) Request 0 t holding (end_of i slot) (way_of slot) v held in
      let (part, shake) = own_slot r d runner gs node i slot Request is_request (places ∙ own_place r d runner gs node) in
      let slot_is = request_slot slot run is_request shake in
      let (row, fires) = node.table.takes_request (t.state d).number in
      let by = ap (λ (p : Phase). firing runner.part (at p (t.state d).number) (Req run)) (holding.states d) ∙ fires in
      (row, (λ l. firing_of (slice_get r.parts (part l)) (t.state (part l)) (slot_is l)) ∙ (ap (λ (o : Option Part). firing_of o (t.state d) (Req run)) node.base.own ∙ by))

  -- after the own part's firing
  led_order : (slot : Slot) (v : ℕ) (row : Row) (s t : Tokens) (past : List Pass) (o : Open) → token_at r s (end_of d slot) (way_of slot) ≡ Some v
      → firing_of (slice_get r.parts d) (s.state d) slot ≡ Some row → OnlyOpen (after_taken r (end_of d slot) (way_of slot) o)
      → Emptied d (with_token r (end_of d row.takes) (way_of row.takes) None s) → Led r d runner gs node row v t past → OrderNext (Fire d slot) s t past o
  led_order slot v row s t past o held by only empty (whole.asks g has n before fits_in going does puts) =
      record {
        place = AtStage g has (In (ResultEnd (runner.asked g)) n ∷ []) before;
        holds = going;
        now = after_put r (PartEnd d g.asked_at) Request (after_taken r (end_of d slot) (way_of slot) o);
        comes = own_order slot v row s o (put (Req g.asked_at) n) held by puts (ap (after_taken r (end_of d slot) (way_of slot) o) named ∙ shut);
        welcome = stage_welcome r d runner gs node g has t going.stirs last.2;
        order =
            record {
              own = with_open (ResultEnd (runner.asked g)) true none_open;
              orderly =
                  (with_open (ResultEnd (runner.asked g)) true none_open, seen g t, does, subst (ComesInOrder g.plan (In (ResultEnd (runner.asked g)) n) before none_open) own_is last.1, last.2, (refl, refl));
              opens =
                  subst (λ (y : End). Opens r d runner gs node g has (with_open (ResultEnd (runner.asked g)) true none_open) (with_open y true (after_taken r (end_of d slot) (way_of slot) o))) (sym named)
                  (first_opens g has (after_taken r (end_of d slot) (way_of slot) o) only joined);
            };
      }
    where
      joined : (x : End) → places_of r (PartEnd d g.asked_at) ≡ Some x → StandsIn g.plan (ResultEnd (runner.asked g))
      joined =
          run_stands r d runner gs node g has
          (node.table.apart (t.state d) g.asked_at going.stirs.session)

      named : handshake_at r (PartEnd d g.asked_at) ≡ PartEnd d g.asked_at
      named = asked_named g has joined

      shut : after_taken r (end_of d slot) (way_of slot) o (PartEnd d g.asked_at) ≡ false
      shut = shut_at (after_taken r (end_of d slot) (way_of slot) o) only (PartEnd d g.asked_at) (λ is. cc is)

      all : IsOrderly g.plan (In (ResultEnd (runner.asked g)) n ∷ []) before
      all = let both = (there g has).regular before (seen g t) (In (ResultEnd (runner.asked g)) n ∷ []) going.ran.tidy going.ran.idle (open_is_one (runner.asked g) g.plan (In (ResultEnd (runner.asked g)) n ∷ []) going.ran.session) (seen g t, does, refl) going.ran.turns in both.0

      last : (m : Open) × ComesInOrder g.plan (In (ResultEnd (runner.asked g)) n) before none_open m × AllWelcome g.plan (seen g t)
      last = last_order g.plan [] (In (ResultEnd (runner.asked g)) n) none_open all.0 none_open before all.1 before (seen g t) all.2 (refl, refl) does

      own_is : last.0 ≡ with_open (ResultEnd (runner.asked g)) true none_open
      own_is =
          let (c, at_end) = in_there g.plan (ResultEnd (runner.asked g)) n before (seen g t) does in
          let asking = asked_role g.plan _ _ _ (there g has).asked c at_end in
          (last.1 c at_end).1
          ∙ (ap (λ (way : Direction). after_put g.plan (ResultEnd (runner.asked g)) way none_open) (ap way_put (sym asking))
          ∙ ap (λ (y : End). with_open y true none_open) (stage_named g has))
  led_order slot v row s t past o held by only empty (whole.replies k holding only_result puts) =
      record {
        place = AtAnswer k;
        holds = (holding, only_result);
        now = after_taken r (end_of d slot) (way_of slot) o;
        comes =
            own_order slot v row s o (put (Ans run) k) held by puts
            (ap (after_taken r (end_of d slot) (way_of slot) o) run_named ∙ only.0, empty_at between empty_between (PartEnd d run));
        welcome = answer_welcome k t holding;
        order = only;
      }
    where
      between : Tokens
      between = with_state d (row.next v) (with_token r (end_of d row.takes) (way_of row.takes) None s)

      empty_between : Emptied d between
      empty_between =
          record {
            places = empty.places;
            states = λ i apart.
                ap (λ (b : Bool). (if b then row.next v else (with_token r (end_of d row.takes) (way_of row.takes) None s).state i).phase) (ne_eqb i d apart)
                ∙ empty.states i apart;
          }

  empty_taken : (slot : Slot) (row : Row) (s : Tokens) → firing_of (slice_get r.parts d) (s.state d) slot ≡ Some row → Emptied d (with_token r (end_of d slot) (way_of slot) None s)
      → Emptied d (with_token r (end_of d row.takes) (way_of row.takes) None s)
  empty_taken slot row s by empty =
      subst (λ (x : Slot). Emptied d (with_token r (end_of d x) (way_of x) None s)) (sym (takes_of (slice_get r.parts d) (s.state d) slot row by)) empty

  -- from rest
  rest_next : (x : Element) (s t : Tokens) (past : List Pass) (o : Open) → IsIdle r s × NoneOpen past → ((y : End) → o y ≡ false) → Does r x s t → InputTurns r past x
      → OrderNext x s t (after r x past) o
  rest_next x s t past o (idle, closed) shut does turn =
      record {
        place = AtAsked;
        holds = (step.1, step.2);
        now = with_open (ResultEnd 0) true o;
        comes = subst (λ (y : Element). ComesInOrder r y s o (with_open (ResultEnd 0) true o)) (sym step.0) comes;
        welcome = asked_welcome t step.1;
        order = (refl, λ y up. by_test y (same_end y (ResultEnd 0)) refl up);
      }
    where
      step : (x ≡ In (ResultEnd 0) 0) × HoldsOnly r (PartEnd d run) Request 0 t × OnlyResult (after r x past)
      step = rest_step r d runner gs node x s t past idle closed does turn

      comes : ComesInOrder r (In (ResultEnd 0) 0) s o (with_open (ResultEnd 0) true o)
      comes c at_end =
          let asking = (result_asks r.outcome (done r d runner gs node) 0 c at_end).1 in
          subst (λ (way : Direction). ComesWell r (ResultEnd 0) way o s × (with_open (ResultEnd 0) true o ≡ after_put r (ResultEnd 0) way o)) (ap way_put asking)
          (shut (handshake_at r (ResultEnd 0)), sym (ap (λ (n : End). with_open n true o) result_named))

      by_test : (y : End) (b : Bool) → same_end y (ResultEnd 0) ≡ b → (if b then true else o y) ≡ true → y ≡ ResultEnd 0
      by_test y true t up = same_is y (ResultEnd 0) t
      by_test y false t up = absurd (true_is_not_false (o y) up (shut y))

  -- asked
  asked_next : (x : Element) (s t : Tokens) (past : List Pass) (o : Open) → HoldsOnly r (PartEnd d run) Request 0 s × OnlyResult past → OnlyOpen o → Does r x s t → InputTurns r past x
      → OrderNext x s t (after r x past) o
  asked_next x s t past o (holding, only_result) only does turn =
      let step = asked_step r d runner gs node x s t past holding only_result does turn in
      let next = led_order (Req run) 0 step.row s t (after r x past) o holding.held step.by only (empty_taken (Req run) step.row s step.by step.empty) step.led in
      subst (λ (y : Element). OrderNext y s t (after r x past) o) (sym step.is) next

  -- answered
  answer_next : (k : ℕ) (x : Element) (s t : Tokens) (past : List Pass) (o : Open) → HoldsOnly r (ResultEnd 0) Answer k s × OnlyResult past → OnlyOpen o → Does r x s t
      → InputTurns r past x → OrderNext x s t (after r x past) o
  answer_next k x s t past o (holding, only_result) only does turn =
      record {
        place = AtRest;
        holds = (step.1, step.2);
        now = with_open (ResultEnd 0) false o;
        comes = subst (λ (y : Element). ComesInOrder r y s o (with_open (ResultEnd 0) false o)) (sym step.0) comes;
        welcome = λ i slot c v at_end way held. absurd (idle_token r t step.1 (end_of i slot) (way_of slot) v held);
        order = λ y. by_test y (same_end y (ResultEnd 0)) refl;
      }
    where
      step : (x ≡ Out (ResultEnd 0) k) × IsIdle r t × NoneOpen (after r x past)
      step = answer_step r d runner gs node k x s t past holding only_result does turn

      comes : ComesInOrder r (Out (ResultEnd 0) k) s o (with_open (ResultEnd 0) false o)
      comes c at_end =
          let asking = (result_asks r.outcome (done r d runner gs node) 0 c at_end).1 in
          subst (λ (way : Direction). with_open (ResultEnd 0) false o ≡ after_taken r (ResultEnd 0) way o) (ap way_taken asking)
          (sym (ap (λ (n : End). with_open n false o) result_named))

      by_test : (y : End) (b : Bool) → same_end y (ResultEnd 0) ≡ b → (if b then false else o y) ≡ false
      by_test y true t = refl
      by_test y false t = shut_at o only y (λ is. true_is_not_false (same_end y (ResultEnd 0)) (ap (λ (z : End). same_end z (ResultEnd 0)) is) t)

  -- within a stage
  module _
      (g : Stage) (has : Contains gs g) (hs : List Element) (before s t : Tokens) (past : List Pass) (o : Open) (x : Element)
      (going : Going r d runner gs node g has hs before s past) (order : Orders g has hs before s o) (ports : Ports r node.base.right o past)
      (does : Does r x s t) (turn : InputTurns r past x) where
    -- a port where an input comes was closed
    shut : (k n v : ℕ) → x ≡ In (ImportEnd k n) v → o (ImportEnd k n) ≡ false
    shut k n v is = by_test (o (ImportEnd k n)) refl
      where
        comes : ComesInTurn past (ImportEnd k n) (way_in (contact_at r (ImportEnd k n)))
        comes = (subst (InputTurns r past) is turn).0

        by_test : (b : Bool) → o (ImportEnd k n) ≡ b → b ≡ false
        by_test false t' = refl
        by_test true up =
            let ((c, at_end, role), held) = ports (ImportEnd k n) tt up in
            let way : way_in (contact_at r (ImportEnd k n)) ≡ Request = ap way_in at_end ∙ ap way_put role in
            sym held ∙ subst (ComesInTurn past (ImportEnd k n)) way comes

    stage_next : StageStep r d runner gs node restful g has hs before s t (after r x past) x → OrderNext x s t (after r x past) o
    stage_next step =
        record {
          place = AtStage g has (hs ++ step.y ∷ []) before;
          holds = step.going;
          now = matched.0;
          comes = subst (λ (z : Element). ComesInOrder r z s o matched.0) step.is matched.1;
          welcome = stage_welcome r d runner gs node g has t step.going.stirs last.2;
          order =
              record {
                own = last.0;
                orderly =
                    orderly_then g.plan hs (step.y ∷ []) none_open order.own last.0 before (seen g s) (seen g t) order.orderly
                    (last.0, seen g t, step.does, last.1, last.2, (refl, refl));
                opens = matched.2;
              };
        }
      where
        all : IsOrderly g.plan (hs ++ step.y ∷ []) before
        all = let both = (there g has).regular before (seen g t) (hs ++ step.y ∷ []) step.going.ran.tidy step.going.ran.idle (open_is_one (runner.asked g) g.plan (hs ++ step.y ∷ []) step.going.ran.session) step.going.ran.ran step.going.ran.turns in both.0

        last : (m : Open) × ComesInOrder g.plan step.y (seen g s) order.own m × AllWelcome g.plan (seen g t)
        last = last_order g.plan hs step.y none_open all.0 order.own before all.1 (seen g s) (seen g t) all.2 order.orderly step.does

        matched : (m : Open) × ComesInOrder r (whole_element g.cut step.y) s o m × Opens r d runner gs node g has last.0 m
        matched =
            stage_order r d runner gs node g has before s t hs going.ran going.stirs.places order.own last.0 o order.opens step.y step.standing
            (λ k n v is none. shut k n v (sym step.is ∙ is)) step.does
            (subst (λ (z : Element). Does r z s t) (sym step.is) does) last.1

    own_next : OwnStep r d runner gs node restful g has hs before s t (after r x past) x → OrderNext x s t (after r x past) o
    own_next step =
        subst (λ (y : Element). OrderNext y s t (after r x past) o) (sym step.is)
        (led_order (Ans g.asked_at) step.v step.row s t (after r x past) o step.held step.by only (empty_taken (Ans g.asked_at) step.row s step.by step.empty) step.led)
      where
        all : IsOrderly g.plan (hs ++ Out (ResultEnd (runner.asked g)) step.v ∷ []) before
        all =
            let both =
            (there g has).regular before step.end (hs ++ Out (ResultEnd (runner.asked g)) step.v ∷ []) going.ran.tidy going.ran.idle
            (ended_is_one (runner.asked g) g.plan hs step.v going.ran.session)
            (runs_then g.plan hs (Out (ResultEnd (runner.asked g)) step.v) before (seen g s) step.end going.ran.ran step.does)
            (inputs_then g.plan [] hs (Out (ResultEnd (runner.asked g)) step.v ∷ []) going.ran.turns tt) in
            both.0

        last : (m : Open) × ComesInOrder g.plan (Out (ResultEnd (runner.asked g)) step.v) (seen g s) order.own m × AllWelcome g.plan step.end
        last = last_order g.plan hs (Out (ResultEnd (runner.asked g)) step.v) none_open all.0 order.own before all.1 (seen g s) step.end all.2 order.orderly step.does

        closing : last.0 ≡ with_open (ResultEnd (runner.asked g)) false order.own
        closing =
            let (c, at_end) = out_there g.plan (ResultEnd (runner.asked g)) step.v (seen g s) step.end step.does in
            let asking = asked_role g.plan _ _ _ (there g has).asked c at_end in
            last.1 c at_end
            ∙ (ap (λ (way : Direction). after_taken g.plan (ResultEnd (runner.asked g)) way order.own) (ap way_taken (sym asking))
            ∙ ap (λ (n : End). with_open n false order.own) (stage_named g has))

        whole_list : OrderlyFrom g.plan (hs ++ Out (ResultEnd (runner.asked g)) step.v ∷ []) none_open before last.0 step.end
        whole_list =
            orderly_then g.plan hs (Out (ResultEnd (runner.asked g)) step.v ∷ []) none_open order.own last.0 before (seen g s) step.end order.orderly
            (last.0, step.end, step.does, last.1, last.2, (refl, refl))

        only_result : OnlyResult past
        only_result = subst (λ (y : Element). OnlyResult (after r y past)) step.is step.only

        import_shut : (i h : ℕ) → is_open (passed g.plan [] hs) (ImportEnd i h) ≡ false
        import_shut = imports_shut r d runner gs node.base g has (passed g.plan [] hs) past going.follows only_result.1

        -- with the answer all its ports are closed
        last_passed : is_open (passed g.plan [] (hs ++ Out (ResultEnd (runner.asked g)) step.v ∷ [])) ≡ is_open (pass (ResultEnd (runner.asked g)) Answer ∷ passed g.plan [] hs)
        last_passed =
            ap is_open (passed_then g.plan [] hs (Out (ResultEnd (runner.asked g)) step.v))
            ∙ ap (λ (way : Direction). is_open (pass (ResultEnd (runner.asked g)) way ∷ passed g.plan [] hs)) (asked_out g.plan _ _ _ (there g has).asked)

        port_shut : (e : End) (c : Contact) → IsPortEnd e → contact_at g.plan e ≡ Some c → is_open (pass (ResultEnd (runner.asked g)) Answer ∷ passed g.plan [] hs) e ≡ false
        port_shut e c port at_end =
            elim (ground_port g.plan (there g has).asked.ground e c port at_end) [
              | inl result ↦
                  ap (is_open (pass (ResultEnd (runner.asked g)) Answer ∷ passed g.plan [] hs)) result.1
                  ∙ answered_shut (runner.asked g) (passed g.plan [] hs) going.follows.alone result.0
              | inr import ↦ ap (is_open (pass (ResultEnd (runner.asked g)) Answer ∷ passed g.plan [] hs)) import.2 ∙ import_shut import.0 import.1
            ]

        own_shut : (e : End) → IsPortEnd e → last.0 e ≡ false
        own_shut e port = by_test (last.0 e) refl
          where
            by_test : (b : Bool) → last.0 e ≡ b → b ≡ false
            by_test false t' = refl
            by_test true up =
                let ((c, at_end, role), held) =
                ports_along g.plan (there g has).region.right (hs ++ Out (ResultEnd (runner.asked g)) step.v ∷ []) none_open last.0 before step.end [] whole_list
                (λ d at up. absurd (cc up)) e port up in
                sym held ∙ (ap (λ (o : Open). o e) last_passed ∙ port_shut e c port at_end)

        closed : (e : End) → last.0 e ≡ false
        closed =
            open_idle_is_closed g.plan (hs ++ Out (ResultEnd (runner.asked g)) step.v ∷ []) last.0 before step.end (there g has).region.right going.ran.idle whole_list step.idle own_shut

        stands : StandsIn g.plan (ResultEnd (runner.asked g))
        stands = own_stands r d runner gs node.base g has s going.stirs.places Answer step.v step.held

        opens : Opens r d runner gs node g has last.0 (after_taken r (PartEnd d g.asked_at) Answer o)
        opens =
            subst (λ (e : End). Opens r d runner gs node g has last.0 (after_taken r e Answer o)) ((there g has).run_by stands)
            (subst (λ (z : Open). Opens r d runner gs node g has z (after_taken r (g.cut.outer (ResultEnd (runner.asked g))) Answer o))
            (sym (closing ∙ sym (ap (λ (n : End). with_open n false order.own) (stage_named g has))))
            (taken_opens r d runner gs node g has order.own o order.opens (ResultEnd (runner.asked g)) stands (stands_agree r d runner gs node g has (ResultEnd (runner.asked g)) tt stands) Answer))

        -- a port of the whole that is open now is its result
        port_now : (y : End) → IsPortEnd y → after_taken r (PartEnd d g.asked_at) Answer o y ≡ true → y ≡ ResultEnd 0
        port_now y port up =
            let ((c, at_end, role), held) = ports y port (else_true (same_end y (handshake_at r (PartEnd d g.asked_at))) (o y) up) in
            elim (port_end r (done r d runner gs node) y c port at_end) [
              | inl result ↦ result.0
              | inr import ↦
                  absurd (true_is_not_false (is_open past (ImportEnd import.0 import.1)) (ap (is_open past) (sym import.2) ∙ held) (only_result.1 import.0 import.1))
            ]

        only : OnlyOpen (after_taken r (PartEnd d g.asked_at) Answer o)
        only = (opens.kept (ResultEnd 0) refl, λ y up. by_end y up (opens.only y up))
          where
            by_end : (y : End) → after_taken r (PartEnd d g.asked_at) Answer o y ≡ true
                → IsThere g.cut r g.plan (Beside r d runner gs node g has) y → y ≡ ResultEnd 0
            by_end y up (inl (inl is)) = is
            by_end y up (inl (inr is)) =
                let at_own = ap (after_taken r (PartEnd d g.asked_at) Answer o) ((there g has).run_by stands ∙ sym is) ∙ up in
                absurd (true_is_not_false (last.0 (ResultEnd (runner.asked g))) (sym (opens.same (ResultEnd (runner.asked g)) stands) ∙ at_own) (closed (ResultEnd (runner.asked g))))
            by_end y up (inr (inl (e, owned, is))) =
                absurd (true_is_not_false (last.0 e) (sym (opens.same e owned) ∙ (ap (after_taken r (PartEnd d g.asked_at) Answer o) is ∙ up)) (closed e))
            by_end y up (inr (inr loose)) = port_now y loose.0 up

  order_next : (pl : Place gs) (x : Element) (s t : Tokens) (past : List Pass) (o : Open) → AllFit r s → Holds r d runner gs node pl s past → OrderHolds pl o s
      → Ports r node.base.right o past → Does r x s t → InputTurns r past x → OrderNext x s t (after r x past) o
  order_next AtRest x s t past o fit holding order ports does turn = rest_next x s t past o holding order does turn
  order_next AtAsked x s t past o fit holding order ports does turn = asked_next x s t past o holding order does turn
  order_next (AtAnswer k) x s t past o fit holding order ports does turn = answer_next k x s t past o holding order does turn
  order_next (AtStage g has hs before) x s t past o fit going order ports does turn =
      elim (stage_step r d runner gs node restful g has hs before s t past going fit x does turn) [
        | inl step ↦ stage_next g has hs before s t past o x going order ports does turn step
        | inr step ↦ own_next g has hs before s t past o x going order ports does turn step
      ]

  ordered : (xs : List Element) (pl : Place gs) (s t : Tokens) (past : List Pass) (o : Open) → AllFit r s → Holds r d runner gs node pl s past → OrderHolds pl o s
      → Ports r node.base.right o past → Runs r xs s t → InputsKeepTurns r past xs → (u : Open) × (w : Tokens) × OrderlyFrom r xs o s u w
  ordered [] pl s t past o fit holding order ports runs turns = (o, s, (refl, refl))
  ordered (x ∷ xs) pl s t past o fit holding order ports (w, does, runs) turns =
      let next = order_next pl x s w past o fit holding order ports does (first_turn r past x xs turns) in
      let (u, z, rest) =
      ordered xs next.place w t (after r x past) next.now (fit_after r d runner gs node restful x s w fit does) next.holds next.order
      (ports_after r node.base.right x o next.now s w past does next.comes ports) runs (later_turns r past x xs turns) in
      (u, z, (next.now, w, does, next.comes, next.welcome, rest))

  pub node_orderly : (s t : Tokens) (xs : List Element) → IsIdle r s → Runs r xs s t → InputsKeepTurns r [] xs → IsOrderly r xs s
  node_orderly s t xs idle runs turns =
      ordered xs AtRest s t [] none_open (idle_fits r s idle) (idle, (refl, λ k h. refl)) (λ x. refl) (λ e port up. absurd (cc up)) runs turns

pub runner_is_regular : (r : Plan) (d : ℕ) (runner : Runner) (gs : List Stage) → RunsStages r d runner gs → AreRestful runner gs → IsRegular r × IsRestful r
runner_is_regular r d runner gs node restful = (
  λ s t xs idle runs turns.
      (node_orderly r d runner gs node restful s t xs idle runs turns, outputs_in_turn r d runner gs node restful s t xs idle runs turns),
  is_restful r d runner gs node restful,
)
