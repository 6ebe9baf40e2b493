-- A side that runs: its list so far, and what is open in it and in the whole. What the whole does next is of the side, or asks for the other.
use Rattle.std.specs.Prelude.{◌+◌, ◌<◌, None}
use Rattle.std.proofs.Common.{◌≡◌, ℕ, Bool, true, false, List, [], ◌∷◌, ◌++◌, ◌⊎◌, Some, inl, inr, refl, sym, ◌∙◌, ap, subst, if◌then◌else◌}
use Rattle.gos_types.specs.Events.{Direction, Request}
use Rattle.gos_types.proofs.BoolLemmas.{true_is_not_false}
use Rattle.gos_plan.specs.Firing.{Rest, State, Slot}
use Rattle.gos_plan.specs.Plans.{End, ResultEnd, Plan, contact_at, same_end}
use Rattle.gos_plan.specs.Tokens.{Tokens, Element, Fire, Out, In, IsPortEnd, way_put, Does, Runs, IsIdle}
use Rattle.gos_plan.specs.Orderly.{Open, none_open, ComesInOrder, AllWelcome, OrderlyFrom, IsOrderly}
use Rattle.gos_plan.proofs.JointLemmas.{same_itself}
use Rattle.gos_plan.proofs.ElementLemmas.{orderly_then}
use Rattle.gos_realises.specs.realises.Regular.{Pass, pass, way_in, way_out, is_open, count, ComesInTurn, KeepsTurns, InputsKeepTurns}
use Rattle.gos_realises.proofs.realises.InputLemmas.{passed, InputTurns, last_order, passed_then, inputs_then, outputs_last, runs_then}
use Rattle.gos_realises.proofs.realises.RingLemmas.{after}
use Rattle.gos_joining.proofs.renumbered.TurnLemmas.{of_result}
use Rattle.gos_joining.specs.webs.Cutting.{lies_at, StandsIn}
use Rattle.gos_supplies.proofs.turns.RestLemmas.{passes_are}
use Rattle.gos_nodes.proofs.windows.ClosingLemmas.{Ports, open_idle_is_closed, ports_along}
use Rattle.gos_nodes.proofs.windows.TurnLemmas.{Turned}
use Rattle.gos_supplies.specs.turns.Rests.{Rests}
use Rattle.gos_nodes.specs.products.Both.{Side}
use Rattle.gos_nodes.proofs.products.PlaceLemmas.{IsLaid, at, at_port, Port, same_contact, Met, met_port}
use Rattle.gos_nodes.proofs.products.StirLemmas.{seen, InSide, Ran, fires_in, Puts, out_in, Takes, in_in, idle_whole, idle_seen}
use Rattle.gos_nodes.proofs.products.TurnLemmas.{Follows, each_of, none_turned, result_port, follows_pass, follows_none, side_turned, whole_turned, comes_as, goes_as, all_shut, IsBeside, where_in}
use Rattle.gos_nodes.proofs.windows.OpensLemmas.{IsThere}
use Rattle.gos_nodes.proofs.products.OrderLemmas.{Never, placed, Stands, Opens, side_order, side_welcome}

-- an output of the element keeps turns
abbrev pub OutTurn : Plan → List Pass → Element → Type 0
OutTurn p past (Fire i t) = Unit {0}
OutTurn p past (Out e v) = KeepsTurns p past (pass e (way_out (contact_at p e)))
OutTurn p past (In e v) = Unit {0}

abbrev OneTurn : Plan → List Pass → Element → Type 0
OneTurn p past y = InputsKeepTurns p past (y ∷ [])

module _ (r : Plan) (n : ℕ) (g : Side) (is : IsLaid r n g) where
  -- The side's list so far, from an idle state; all else rests; and what is open.
  pub record Going (s : Tokens) (past : List Pass) (o : Open) : Type 0 where
    pub hs : List Element
    pub before : Tokens
    pub ran : Ran r n g is before hs s
    pub turned : Turned g.plan (passed g.plan [] hs)
    pub within : InSide r n g is s
    pub others : (i : ℕ) → g.cut.number i ≡ None → (s.state i).phase ≡ Rest
    pub follows : Follows r n g is (passed g.plan [] hs) past
    pub own : Open
    pub orderly : OrderlyFrom g.plan hs none_open before own (seen g s)
    pub opens : Opens r n g is own o

  -- it begins where all is idle
  pub begins : (s : Tokens) (past : List Pass) (o : Open) → IsIdle r s → ((e : End) → is_open past e ≡ false) → ((x : End) → o x ≡ false) → Going s past o
  begins s past o idle shut closed =
      record {
        hs = [];
        before = seen g s;
        ran = record { idle = idle_seen r n g is s idle; ran = refl; turns = tt };
        turned = none_turned g.plan;
        within = λ way e v held. let clash : None ≡ Some v = sym (idle.0 way e) ∙ held in absurd (cc clash);
        others = λ i out. idle.1 i;
        follows = follows_none r n g is past shut;
        own = none_open;
        orderly = (refl, refl);
        opens = record { kept = λ x never. absurd never; same = λ e owned. closed (lies_at g.cut e); only = λ x up. absurd (true_is_not_false (o x) up (closed x)) };
      }

  -- after an element
  pub record Next (s t : Tokens) (past : List Pass) (o : Open) (x : Element) : Type 0 where
    pub now : Open
    pub comes : ComesInOrder r x s o now
    pub welcome : AllWelcome r t
    pub out : OutTurn r past x
    pub going : Going t (after r x past) now

  module _ (s : Tokens) (past : List Pass) (o : Open) (going : Going s past o) (ports : Ports r is.side.region.whole_right o past) where
    abbrev own_past : List Pass
    own_past = passed g.plan [] going.hs

    -- what goes on
    goes_on : (t : Tokens) (y : Element) → Does g.plan y (seen g s) (seen g t) → OneTurn g.plan own_past y → Stands r n g is y
        → Turned g.plan (after g.plan y own_past) → InSide r n g is t → ((i : ℕ) → g.cut.number i ≡ None → t.state i ≡ s.state i)
        → Follows r n g is (after g.plan y own_past) (after r (placed r n g is y) past) → OutTurn r past (placed r n g is y)
        → ((e : End) (v : ℕ) → y ≡ In e v → o (at r n g is e) ≡ false) → Does r (placed r n g is y) s t → Next s t past o (placed r n g is y)
    goes_on t y does turn stands turned within others follows out shut whole_does =
        record {
          now = matched.0;
          comes = matched.1;
          welcome = side_welcome r n g is t within last.2;
          out = out;
          going =
              record {
                hs = going.hs ++ y ∷ [];
                before = going.before;
                ran = record { idle = going.ran.idle; ran = runs; turns = turns };
                turned = subst (Turned g.plan) (sym (passed_then g.plan [] going.hs y)) turned;
                within = within;
                others = λ i lost. ap (λ (q : State). q.phase) (others i lost) ∙ going.others i lost;
                follows = subst (λ (l : List Pass). Follows r n g is l (after r (placed r n g is y) past)) (sym (passed_then g.plan [] going.hs y)) follows;
                own = last.0;
                orderly =
                    orderly_then g.plan going.hs (y ∷ []) none_open going.own last.0 going.before (seen g s) (seen g t) going.orderly
                    (last.0, seen g t, does, last.1, last.2, (refl, refl));
                opens = matched.2;
              };
        }
      where
        runs : Runs g.plan (going.hs ++ y ∷ []) going.before (seen g t)
        runs = runs_then g.plan going.hs y going.before (seen g s) (seen g t) going.ran.ran does

        turns : InputsKeepTurns g.plan [] (going.hs ++ y ∷ [])
        turns = inputs_then g.plan [] going.hs (y ∷ []) going.ran.turns turn

        all : IsOrderly g.plan (going.hs ++ y ∷ []) going.before
        all = let both = is.side.regular going.before (seen g t) (going.hs ++ y ∷ []) going.ran.idle runs turns in both.0

        last : (m : Open) × ComesInOrder g.plan y (seen g s) going.own m × AllWelcome g.plan (seen g t)
        last = last_order g.plan going.hs y none_open all.0 going.own going.before all.1 (seen g s) (seen g t) all.2 going.orderly does

        matched : (m : Open) × ComesInOrder r (placed r n g is y) s o m × Opens r n g is last.0 m
        matched =
            side_order r n g is going.before s t going.hs going.ran going.within going.own last.0 o going.opens y stands
            (λ e v same none. shut e v same) does whole_does last.1

    fires : (t : Tokens) (i : ℕ) (slot : Slot) → Does r (Fire i slot) s t → Next s t past o (Fire i slot)
    fires t i slot does =
        let fire = fires_in r n g is going.before s t going.hs going.ran going.within i slot does in
        let numbered = is.side.region.numbers i fire.part fire.number in
        let lies : Fire (g.cut.part fire.part) slot ≡ Fire i slot = ap (λ (m : ℕ). Fire m slot) numbered.0 in
        subst (λ (x : Element). Next s t past o x) lies
        (goes_on t (Fire fire.part slot) fire.does tt tt going.turned fire.within fire.others going.follows tt (λ e v same. absurd (cc same))
        (subst (λ (x : Element). Does r x s t) (sym lies) does))

    puts_at : (t : Tokens) (e : End) (v : ℕ) → IsPortEnd e → StandsIn g.plan e → Does g.plan (Out e v) (seen g s) (seen g t) → InSide r n g is t
        → ((i : ℕ) → t.state i ≡ s.state i) → Does r (Out (at r n g is e) v) s t → Next s t past o (Out (at r n g is e) v)
    puts_at t e v port stands does within states whole_does =
        goes_on t (Out e v) does tt (port, stands) turn.1 within (λ i lost. states i) follows out (λ d w same. absurd (cc same)) whole_does
      where
        met : Met r n g is e
        met = inl (port, stands)

        ways : way_out (contact_at r (at r n g is e)) ≡ way_out (contact_at g.plan e)
        ways = ap way_out (same_contact r n g is e (met_port r n g is e met))

        turn : KeepsTurns g.plan own_past (pass e (way_out (contact_at g.plan e)))
        turn =
            let ran = runs_then g.plan going.hs (Out e v) going.before (seen g s) (seen g t) going.ran.ran does in
            let turns = inputs_then g.plan [] going.hs (Out e v ∷ []) going.ran.turns tt in
            let all = is.side.regular going.before (seen g t) (going.hs ++ Out e v ∷ []) going.ran.idle ran turns in
            (outputs_last g.plan [] going.hs (Out e v ∷ []) all.1).0

        follows : Follows r n g is (pass e (way_out (contact_at g.plan e)) ∷ own_past) (pass (at r n g is e) (way_out (contact_at r (at r n g is e))) ∷ past)
        follows =
            subst (λ (way : Direction). Follows r n g is (pass e (way_out (contact_at g.plan e)) ∷ own_past) (pass (at r n g is e) way ∷ past)) (sym ways)
            (follows_pass r n g is own_past past going.follows e met (way_out (contact_at g.plan e)))

        out : KeepsTurns r past (pass (at r n g is e) (way_out (contact_at r (at r n g is e))))
        out = (
          goes_as r n g is own_past past going.follows e (met_port r n g is e met) (way_out (contact_at r (at r n g is e)))
              (subst (ComesInTurn own_past e) (sym ways) turn.0),
          whole_turned r n g is (pass e (way_out (contact_at g.plan e)) ∷ own_past) (pass (at r n g is e) (way_out (contact_at r (at r n g is e))) ∷ past) follows turn.1,
        )

    puts : (t : Tokens) (b : End) (v : ℕ) → Does r (Out b v) s t → Next s t past o (Out b v)
    puts t b v does = of_puts (out_in r n g is b v s t going.within does)
      where
        of_puts : Puts r n g is b v s t → Next s t past o (Out b v)
        of_puts one =
            subst (λ (x : End). Next s t past o (Out x v)) one.lies
            (puts_at t one.end v one.port one.stands one.does one.within one.others (subst (λ (x : End). Does r (Out x v) s t) (sym one.lies) does))

    -- a port where a request comes was closed
    port_shut : (b : End) → IsPortEnd b → ComesInTurn past b (way_in (contact_at r b)) → o b ≡ false
    port_shut b port comes = by_test (o b) refl
      where
        by_test : (t : Bool) → o b ≡ t → t ≡ false
        by_test false t = refl
        by_test true up =
            let ((c, at_end, role), held) = ports b port up in
            let way : way_in (contact_at r b) ≡ Request = ap way_in at_end ∙ ap way_put role in
            sym held ∙ subst (ComesInTurn past b) way comes

    takes_at : (t : Tokens) (e : End) (v : ℕ) → Met r n g is e → Does r (In (at r n g is e) v) s t
        → KeepsTurns r past (pass (at r n g is e) (way_in (contact_at r (at r n g is e)))) → Next s t past o (In (at r n g is e) v)
    takes_at t e v met whole_does whole_turn =
        goes_on t (In e v) take.does (turn, tt) met turn.1 take.within (λ i lost. take.others i) follows tt shut whole_does
      where
        take : Takes r n g is e v s t
        take = in_in r n g is e v s t met going.within whole_does

        port : Port r n g is e
        port = met_port r n g is e met

        ways : way_in (contact_at r (at r n g is e)) ≡ way_in (contact_at g.plan e)
        ways = ap way_in (same_contact r n g is e port)

        follows : Follows r n g is (pass e (way_in (contact_at g.plan e)) ∷ own_past) (pass (at r n g is e) (way_in (contact_at r (at r n g is e))) ∷ past)
        follows =
            subst (λ (way : Direction). Follows r n g is (pass e (way_in (contact_at g.plan e)) ∷ own_past) (pass (at r n g is e) way ∷ past)) (sym ways)
            (follows_pass r n g is own_past past going.follows e met (way_in (contact_at g.plan e)))

        turn : KeepsTurns g.plan own_past (pass e (way_in (contact_at g.plan e)))
        turn = (
          subst (ComesInTurn own_past e) ways
              (comes_as r n g is own_past past going.follows e port (way_in (contact_at r (at r n g is e))) whole_turn.0),
          side_turned r n g is (pass e (way_in (contact_at g.plan e)) ∷ own_past) (pass (at r n g is e) (way_in (contact_at r (at r n g is e))) ∷ past) follows whole_turn.1,
        )

        shut : (d : End) (w : ℕ) → In e v ≡ In d w → o (at r n g is d) ≡ false
        shut d w same =
            let ends : e ≡ d = cc same in
            subst (λ (x : End). o (at r n g is x) ≡ false) ends (port_shut (at r n g is e) (at_port r n g is e port.port) whole_turn.0)

    -- a request at the result beside the side's
    abbrev pub AsksBeside : Element → Type 0
    AsksBeside x = (b : End) × (v : ℕ) × (x ≡ In b v) × IsBeside r n g is own_past past going.follows b

    pub step : (t : Tokens) (x : Element) → Does r x s t → InputTurns r past x → Next s t past o x ⊎ AsksBeside x
    step t (Fire i slot) does turn = inl (fires t i slot does)
    step t (Out b v) does turn = inl (puts t b v does)
    step t (In b v) does turn =
        elim (where_in r n g is own_past past going.follows b v s t does turn) [
          | inl own ↦
              inl
              (subst (λ (x : End). Next s t past o (In x v)) own.2
              (takes_at t own.0 v own.1 (subst (λ (x : End). Does r (In x v) s t) (sym own.2) does)
              (subst (λ (x : End). KeepsTurns r past (pass x (way_in (contact_at r x)))) (sym own.2) turn)))
          | inr beside ↦ inr (b, v, refl, beside)
        ]

    -- where the side's result is closed all is idle, and nothing is open
    pub all_rests : Rests g.plan → ((h : ℕ) → h < count g.plan.outcome → is_open past (ResultEnd (n + h)) ≡ false)
        → IsIdle r s × ((e : End) → is_open past e ≡ false) × ((x : End) → o x ≡ false)
    all_rests side_rests closed = (idle_whole r n g is s going.within going.others idle, past_shut, λ x. by_open x (o x) refl)
      where
        shut : (e : End) → is_open own_past e ≡ false
        shut =
            all_shut r n g is own_past past going.follows going.turned
            (λ h low. going.follows.same (ResultEnd h) (result_port r n g is h low) ∙ closed h low)

        idle : IsIdle g.plan (seen g s)
        idle =
            side_rests going.before (seen g s) going.hs going.ran.idle going.ran.ran going.ran.turns
            (λ e. ap (λ (l : List Pass). is_open l e) (passes_are g.plan [] going.hs) ∙ shut e)

        past_shut : (e : End) → is_open past e ≡ false
        past_shut b = by_test (is_open past b) refl
          where
            by_test : (t : Bool) → is_open past b ≡ t → t ≡ false
            by_test false t = refl
            by_test true up =
                let (e, met, lies) = going.follows.only b up in
                let own_up : is_open own_past e ≡ true = going.follows.same e (met_port r n g is e met) ∙ (ap (is_open past) lies ∙ up) in
                absurd (true_is_not_false (is_open own_past e) own_up (shut e))

        port_closed : (e : End) → IsPortEnd e → going.own e ≡ false
        port_closed e port = by_test (going.own e) refl
          where
            by_test : (t : Bool) → going.own e ≡ t → t ≡ false
            by_test false t = refl
            by_test true up =
                let ((c, at_end, role), held) =
                ports_along g.plan is.side.region.right going.hs none_open going.own going.before (seen g s) [] going.orderly (λ d at up. absurd (cc up)) e port up in
                absurd (true_is_not_false (is_open own_past e) held (shut e))

        own_closed : (e : End) → going.own e ≡ false
        own_closed =
            open_idle_is_closed g.plan going.hs going.own going.before (seen g s) is.side.region.right going.ran.idle going.orderly idle port_closed

        by_end : (x : End) → o x ≡ true → IsThere g.cut r g.plan Never x → ⊥
        by_end x up (inl never) = never
        by_end x up (inr (inl (e, owned, lies))) =
            true_is_not_false (going.own e) (sym (going.opens.same e owned) ∙ (ap o lies ∙ up)) (own_closed e)
        by_end x up (inr (inr loose)) = let (there, held) = ports x loose.0 up in true_is_not_false (is_open past x) held (past_shut x)

        by_open : (x : End) (t : Bool) → o x ≡ t → t ≡ false
        by_open x false t = refl
        by_open x true up = absurd (by_end x up (going.opens.only x up))

    -- a request beside it finds its result closed
    pub beside_closed : (b : End) → IsBeside r n g is own_past past going.follows b → KeepsTurns r past (pass b (way_in (contact_at r b)))
        → (h : ℕ) → h < count g.plan.outcome → is_open past (ResultEnd (n + h)) ≡ false
    beside_closed b (m, at_b, small, way, apart) turn h low = by_test (same_end (ResultEnd m) (ResultEnd (n + h))) refl closed
      where
        now : Turned r (pass (ResultEnd m) Request ∷ past)
        now = subst (λ (x : Pass). Turned r (x ∷ past)) (λ l. pass (at_b l) (way l)) turn.1

        open_there : is_open (pass (ResultEnd m) Request ∷ past) (ResultEnd m) ≡ true
        open_there = ap (λ (t : Bool). if t then true else is_open past (ResultEnd m)) (same_itself (ResultEnd m))

        closed : is_open (pass (ResultEnd m) Request ∷ past) (ResultEnd (n + h)) ≡ false
        closed =
            is.part.alone (of_result (is_open (pass (ResultEnd m) Request ∷ past))) m (each_of r (pass (ResultEnd m) Request ∷ past) now).1 small apart open_there h low

        by_test : (t : Bool) → same_end (ResultEnd m) (ResultEnd (n + h)) ≡ t → (if t then true else is_open past (ResultEnd (n + h))) ≡ false
            → is_open past (ResultEnd (n + h)) ≡ false
        by_test true t shut = absurd (cc shut)
        by_test false t shut = shut
