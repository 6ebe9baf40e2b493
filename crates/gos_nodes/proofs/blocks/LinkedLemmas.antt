-- What is open at the results of a block and of its body, and at its variable: along a list whose inputs come in turn the body's result
-- is open where the server runs its body, and of the variable what the server's state says (`Driven`).
use Rattle.std.specs.Prelude.{◌≡◌, ◌≢◌, ℕ, not, Bool, true, false, List, [], ◌∷◌, ◌++◌, Option, Some, None, All, slice_get}
use Rattle.std.proofs.Common.{refl, sym, ap, subst, ◌∙◌}
use Rattle.gos_types.specs.Events.{Direction, Request, Answer}
use Rattle.gos_plan.specs.Kinds.{Contact, contacts_of}
use Rattle.gos_plan.specs.Firing.{Phase, Rest, State, Slot}
use Rattle.gos_plan.specs.Plans.{End, ImportEnd, ResultEnd, Plan, contact_at}
use Rattle.gos_plan.specs.Tokens.{Tokens, Element, Out, In, way_taken, way_put, Runs, IsIdle}
use Rattle.gos_plan.specs.TokenBits.{LiteralFits}
use Rattle.gos_plan.proofs.ElementLemmas.{runs_then}
use Rattle.gos_joining.specs.webs.Cutting.{cut_tokens}
use Rattle.gos_realises.specs.realises.Regular.{Pass, pass, way_in, way_out, is_request, is_open, ComesInTurn}
use Rattle.gos_realises.proofs.realises.RingLemmas.{after}
use Rattle.gos_realises.proofs.realises.PassLemmas.{open_otherwise}
use Rattle.gos_nodes.proofs.parallel.GateLemmas.{gate, Same}
use Rattle.gos_nodes.proofs.parallel.HungLemmas.{Local, fires, puts_out, takes_in, import_contact}
use Rattle.gos_nodes.proofs.parallel.LinkedLemmas.{Comes, past_all}
use Rattle.gos_nodes.proofs.windows.AskedLemmas.{done_contact}
use Rattle.gos_nodes.specs.blocks.Servers.{after_pass}
use Rattle.gos_nodes.specs.blocks.Block.{Block, IsBlock}
use Rattle.gos_nodes.proofs.blocks.RegionLemmas as region
use Rattle.gos_nodes.proofs.blocks.ServerLemmas.{import_pass, same_after, finds_comes}
use Rattle.gos_nodes.proofs.blocks.StepLemmas.{Supplies, Step, of_body, asked, told, starts, supplies, ended, lost}

-- where the whole stands: whether its result is open, the server's phase, and what lies on the joint of the result
pub data Stage (runs : Phase → Bool) (up : Bool) (ph : Phase) (ask ans : Option ℕ) : Type 0 where
  idle : up ≡ false → ph ≡ Rest → ask ≡ None → ans ≡ None → Stage runs up ph ask ans
  is_asked : up ≡ true → ph ≡ Rest → ask ≡ Some 0 → ans ≡ None → Stage runs up ph ask ans
  works : up ≡ true → runs ph ≡ true → ask ≡ None → ans ≡ None → Stage runs up ph ask ans
  has_ended : (v : ℕ) → up ≡ true → ph ≡ Rest → ask ≡ None → ans ≡ Some v → Stage runs up ph ask ans

pub record Driven (b : Block) (past own : List Pass) (s : Tokens) : Type 0 where
  pub result : is_open own (ResultEnd 0) ≡ b.server.runs (s.state b.own).phase
  pub variable : (h : ℕ) → is_open own (ImportEnd b.place h) ≡ b.server.opened (s.state b.own) h
  pub stage : Stage b.server.runs (is_open past (ResultEnd 0)) (s.state b.own).phase (gate s Request) (gate s Answer)

-- what a stage tells
module _ (runs : Phase → Bool) (rests : runs Rest ≡ false) (up : Bool) (ph : Phase) (ask ans : Option ℕ) where
  abbrev Here : Type 0
  Here = Stage runs up ph ask ans

  pub when_asking : Here → up ≡ false → (ph ≡ Rest) × (ask ≡ None) × (ans ≡ None)
  when_asking (idle shut rest none empty) e = (rest, none, empty)
  when_asking (is_asked opened rest none empty) e = let bad : true ≡ false = sym opened ∙ e in absurd (cc bad)
  when_asking (works opened phase none empty) e = let bad : true ≡ false = sym opened ∙ e in absurd (cc bad)
  when_asking (has_ended v opened rest none empty) e = let bad : true ≡ false = sym opened ∙ e in absurd (cc bad)

  pub when_told : (v : ℕ) → Here → ans ≡ Some v → (up ≡ true) × (ph ≡ Rest) × (ask ≡ None)
  when_told v (idle shut rest none empty) e = let bad : None ≡ Some v = sym empty ∙ e in absurd (cc bad)
  when_told v (is_asked opened rest none empty) e = let bad : None ≡ Some v = sym empty ∙ e in absurd (cc bad)
  when_told v (works opened phase none empty) e = let bad : None ≡ Some v = sym empty ∙ e in absurd (cc bad)
  when_told v (has_ended n opened rest none here) e = (opened, rest, none)

  pub when_starting : (v : ℕ) → Here → ask ≡ Some v → (up ≡ true) × (ph ≡ Rest) × (ans ≡ None)
  when_starting v (idle shut rest none empty) e = let bad : None ≡ Some v = sym none ∙ e in absurd (cc bad)
  when_starting v (is_asked opened rest some empty) e = (opened, rest, empty)
  when_starting v (works opened phase none empty) e = let bad : None ≡ Some v = sym none ∙ e in absurd (cc bad)
  when_starting v (has_ended n opened rest none here) e = let bad : None ≡ Some v = sym none ∙ e in absurd (cc bad)

  not_running : ph ≡ Rest → runs ph ≡ true → ⊥
  not_running rest e = let bad : true ≡ false = sym e ∙ (ap runs rest ∙ rests) in cc bad

  pub when_working : Here → runs ph ≡ true → (up ≡ true) × (ask ≡ None) × (ans ≡ None)
  when_working (idle shut rest none empty) e = absurd (not_running rest e)
  when_working (is_asked opened rest some empty) e = absurd (not_running rest e)
  when_working (works opened phase none empty) e = (opened, none, empty)
  when_working (has_ended v opened rest none here) e = absurd (not_running rest e)

module _ (r : Plan) (b : Block) (is : IsBlock r b) (literals : All LiteralFits r.parts) where
  -- what the body makes of an element
  abbrev pub seen : (x : Element) (s t : Tokens) → Step r b x s t → List Element
  seen x s t (of_body x' y s' t' local sees same) = y ∷ []
  seen x s t (asked v s' t' small unseen state ask ans) = []
  seen x s t (told v s' t' unseen state ans none ask) = []
  seen x s t (starts s' t' z) = In (ResultEnd 0) 0 ∷ []
  seen x s t (supplies slot s' t' z) = Out (ImportEnd b.place z.serves.at) z.value ∷ In (ImportEnd b.place z.serves.back) (z.serves.number z.value) ∷ []
  seen x s t (ended s' t' z) = Out (ResultEnd 0) z.value ∷ []
  seen x s t (lost j k v s' t' c there none unseen same) = []

  -- the ways of the results, and of the variable
  pub way_asked : way_in (contact_at r (ResultEnd 0)) ≡ Request
  way_asked = ap way_in (done_contact r.outcome is.done)

  pub way_told : way_out (contact_at r (ResultEnd 0)) ≡ Answer
  way_told = ap way_out (done_contact r.outcome is.done)

  pub body_asked : way_in (contact_at b.body (ResultEnd 0)) ≡ Request
  body_asked = ap way_in (region.result_there r b is)

  pub body_told : way_out (contact_at b.body (ResultEnd 0)) ≡ Answer
  body_told = ap way_out (region.result_there r b is)

  pub way_supplied : (h : ℕ) (c : Contact) → slice_get (contacts_of b.server.supply) h ≡ Some c → way_out (contact_at b.body (ImportEnd b.place h)) ≡ way_taken c.role
  way_supplied h c there = ap way_out (region.variable_contact r b is h ∙ there)

  pub way_back : (h : ℕ) (c : Contact) → slice_get (contacts_of b.server.supply) h ≡ Some c → way_in (contact_at b.body (ImportEnd b.place h)) ≡ way_put c.role
  way_back h c there = ap way_in (region.variable_contact r b is h ∙ there)

  -- what leads to an import of the whole is not the variable
  pub not_variable : (i j k : ℕ) → b.cut.outer (ImportEnd i k) ≡ ImportEnd j k → i ≢ b.place
  not_variable i j k leads same = let bad = sym (region.served_at r b is i k same) ∙ leads in cc bad

  abbrev StageOf : Bool → Phase → Option ℕ → Option ℕ → Type 0
  StageOf up ph ask ans = Stage b.server.runs up ph ask ans

  stage_at : (up : Bool) (ph c : Phase) (ask a ans e : Option ℕ) → b.server.runs c ≡ b.server.runs ph → (ph ≡ Rest → c ≡ Rest) → a ≡ ask → e ≡ ans → StageOf up ph ask ans
      → StageOf up c a e
  stage_at up ph c ask a ans e runs rests h k (idle shut rest none empty) = idle shut (rests rest) (h ∙ none) (k ∙ empty)
  stage_at up ph c ask a ans e runs rests h k (is_asked opened rest some empty) = is_asked opened (rests rest) (h ∙ some) (k ∙ empty)
  stage_at up ph c ask a ans e runs rests h k (works opened phase none empty) = works opened (runs ∙ phase) (h ∙ none) (k ∙ empty)
  stage_at up ph c ask a ans e runs rests h k (has_ended v opened rest none some) = has_ended v opened (rests rest) (h ∙ none) (k ∙ some)

  driven_same : (past own : List Pass) (s t : Tokens) → Same b.own s t → Driven b past own s → Driven b past own t
  driven_same past own s t same driven =
      record {
        result = driven.result ∙ ap (λ (c : State). b.server.runs c.phase) (sym same.state);
        variable = λ h. driven.variable h ∙ ap (λ (c : State). b.server.opened c h) (sym same.state);
        stage =
            stage_at (is_open past (ResultEnd 0)) (s.state b.own).phase (t.state b.own).phase (gate s Request) (gate t Request) (gate s Answer) (gate t Answer)
            (ap (λ (c : State). b.server.runs c.phase) same.state) (λ rest. ap (λ (c : State). c.phase) same.state ∙ rest) (same.gates Request) (same.gates Answer)
            driven.stage;
      }

  -- an import of the body is asked or answers
  import_driven : (i j k : ℕ) (way : Direction) (past own : List Pass) (s : Tokens) → b.cut.outer (ImportEnd i k) ≡ ImportEnd j k → Driven b past own s
      → Driven b (pass (ImportEnd j k) way ∷ past) (pass (ImportEnd i k) way ∷ own) s
  import_driven i j k way past own s leads driven =
      record {
        result = driven.result;
        variable = λ h.
            open_otherwise (ImportEnd i k) (ImportEnd b.place h) way own (λ e. let same : i ≡ b.place = cc e in not_variable i j k leads same) ∙ driven.variable h;
        stage = driven.stage;
      }

  -- the server serves the variable: both passes
  module _ (slot : Slot) (s t : Tokens) (z : Supplies r b slot s t) (own : List Pass) where
    abbrev one : End
    one = ImportEnd b.place z.serves.at

    abbrev other : End
    other = ImportEnd b.place z.serves.back

    abbrev pub own_after : List Pass
    own_after = pass other (way_in (contact_at b.body other)) ∷ pass one (way_out (contact_at b.body one)) ∷ own

    out_is : way_out (contact_at b.body one) ≡ way_taken z.serves.taken.role
    out_is = way_supplied z.serves.at z.serves.taken z.serves.at_there

    in_is : way_in (contact_at b.body other) ≡ way_put z.serves.given.role
    in_is = way_back z.serves.back z.serves.given z.serves.back_there

    pub runs_on : b.server.runs (t.state b.own).phase ≡ b.server.runs (s.state b.own).phase
    runs_on = ap (λ (c : State). b.server.runs c.phase) z.state ∙ (z.serves.stays z.value ∙ sym z.serves.running)

    first_open : ((h : ℕ) → is_open own (ImportEnd b.place h) ≡ b.server.opened (s.state b.own) h) → (h : ℕ)
        → is_open (pass one (way_out (contact_at b.body one)) ∷ own) (ImportEnd b.place h)
        ≡ after_pass z.serves.at (way_taken z.serves.taken.role) (b.server.opened (s.state b.own)) h
    first_open opened h =
        import_pass b.place z.serves.at h (way_out (contact_at b.body one)) own
        ∙ (ap (λ w. after_pass z.serves.at w (λ m. is_open own (ImportEnd b.place m)) h) out_is
        ∙ same_after z.serves.at (way_taken z.serves.taken.role) (λ m. is_open own (ImportEnd b.place m)) (b.server.opened (s.state b.own)) opened h)

    pub supplied_open : ((h : ℕ) → is_open own (ImportEnd b.place h) ≡ b.server.opened (s.state b.own) h) → (h : ℕ)
        → is_open own_after (ImportEnd b.place h) ≡ b.server.opened (t.state b.own) h
    supplied_open opened h =
        let before = pass one (way_out (contact_at b.body one)) ∷ own in
        import_pass b.place z.serves.back h (way_in (contact_at b.body other)) before
        ∙ (ap (λ w. after_pass z.serves.back w (λ m. is_open before (ImportEnd b.place m)) h) in_is
        ∙ (same_after z.serves.back (way_put z.serves.given.role) (λ m. is_open before (ImportEnd b.place m))
        (after_pass z.serves.at (way_taken z.serves.taken.role) (b.server.opened (s.state b.own))) (first_open opened) h
        ∙ (sym (z.serves.opened z.value h) ∙ ap (λ (c : State). b.server.opened c h) (sym z.state))))

    -- the second comes in turn
    pub supplied_turn : ((h : ℕ) → is_open own (ImportEnd b.place h) ≡ b.server.opened (s.state b.own) h)
        → ComesInTurn (pass one (way_out (contact_at b.body one)) ∷ own) other (way_in (contact_at b.body other))
    supplied_turn opened =
        finds_comes (pass one (way_out (contact_at b.body one)) ∷ own) other (way_in (contact_at b.body other))
        (first_open opened z.serves.back ∙ (z.serves.turn ∙ ap (λ w. not (is_request w)) (sym in_is)))

    pub supplied_driven : (past : List Pass) → Driven b past own s → Driven b past own_after t
    supplied_driven past driven =
        record {
          result = driven.result ∙ sym runs_on;
          variable = supplied_open driven.variable;
          stage =
              let (up, none, empty) =
              when_working b.server.runs is.server.rests (is_open past (ResultEnd 0)) (s.state b.own).phase (gate s Request) (gate s Answer) driven.stage z.serves.running in
              works up (runs_on ∙ z.serves.running) (z.gates Request ∙ none) (z.gates Answer ∙ empty);
        }

    -- other imports are as they were
    pub supplied_others : (i n : ℕ) → i ≢ b.place → is_open own_after (ImportEnd i n) ≡ is_open own (ImportEnd i n)
    supplied_others i n apart =
        open_otherwise other (ImportEnd i n) (way_in (contact_at b.body other)) (pass one (way_out (contact_at b.body one)) ∷ own)
        (λ e. let same : b.place ≡ i = cc e in apart (sym same))
        ∙ open_otherwise one (ImportEnd i n) (way_out (contact_at b.body one)) own (λ e. let same : b.place ≡ i = cc e in apart (sym same))

  pub asked_turn : (past : List Pass) → ComesInTurn past (ResultEnd 0) (way_in (contact_at r (ResultEnd 0))) → is_open past (ResultEnd 0) ≡ false
  asked_turn past turn = subst (λ w. ComesInTurn past (ResultEnd 0) w) way_asked turn

  local_driven : (x y : Element) (s : Tokens) (past own : List Pass) → Local b.cut r b.body x y → Driven b past own s → Driven b (after r x past) (after b.body y own) s
  local_driven x y s past own (fires i j slot number) driven = driven
  local_driven x y s past own (puts_out i j k v stands leads slices) driven =
      let way = way_out (contact_at b.body (ImportEnd i k)) in
      subst (λ o. Driven b (pass (ImportEnd j k) (way_out o) ∷ past) (pass (ImportEnd i k) way ∷ own) s) (sym (import_contact (region.hung_body r b is) i j k stands leads))
      (import_driven i j k way past own s leads driven)
  local_driven x y s past own (takes_in i j k v stands leads slices) driven =
      let way = way_in (contact_at b.body (ImportEnd i k)) in
      subst (λ o. Driven b (pass (ImportEnd j k) (way_in o) ∷ past) (pass (ImportEnd i k) way ∷ own) s) (sym (import_contact (region.hung_body r b is) i j k stands leads))
      (import_driven i j k way past own s leads driven)

  -- nothing is open of a server at rest
  resting_shut : (s : Tokens) → (s.state b.own).phase ≡ Rest → (h : ℕ) → b.server.opened (s.state b.own) h ≡ false
  resting_shut s rest h = is.server.closed (s.state b.own) h (ap b.server.runs rest ∙ is.server.rests)

  pub driven_step : (x : Element) (s t : Tokens) (z : Step r b x s t) (past own : List Pass) → Driven b past own s → Comes r past x
      → Driven b (after r x past) (past_all b.body (seen x s t z) own) t
  driven_step x s t (of_body x' y s' t' local sees same) past own driven comes = local_driven x' y t' past own local (driven_same past own s' t' same driven)
  driven_step x s t (asked v s' t' small unseen state ask ans) past own driven comes =
      let (rest, none, empty) = when_asking b.server.runs is.server.rests (is_open past (ResultEnd 0)) (s'.state b.own).phase (gate s' Request) (gate s' Answer) driven.stage (asked_turn past comes) in
      subst (λ w. Driven b (pass (ResultEnd 0) w ∷ past) own t') (sym way_asked)
      record {
        result = driven.result ∙ ap (λ (c : State). b.server.runs c.phase) (sym state);
        variable = λ h. driven.variable h ∙ ap (λ (c : State). b.server.opened c h) (sym state);
        stage = is_asked refl (ap (λ c. c.phase) state ∙ rest) (ask ∙ ap (λ n. Some n) small) (ans ∙ empty);
      }
  driven_step x s t (told v s' t' unseen state ans none ask) past own driven comes =
      let (opened, rest, empty) = when_told b.server.runs is.server.rests (is_open past (ResultEnd 0)) (s'.state b.own).phase (gate s' Request) (gate s' Answer) v driven.stage ans in
      subst (λ w. Driven b (pass (ResultEnd 0) w ∷ past) own t') (sym way_told)
      record {
        result = driven.result ∙ ap (λ (c : State). b.server.runs c.phase) (sym state);
        variable = λ h. driven.variable h ∙ ap (λ (c : State). b.server.opened c h) (sym state);
        stage = idle refl (ap (λ c. c.phase) state ∙ rest) (ask ∙ empty) none;
      }
  driven_step x s t (starts s' t' z) past own driven comes =
      let (opened, also, empty) = when_starting b.server.runs is.server.rests (is_open past (ResultEnd 0)) (s'.state b.own).phase (gate s' Request) (gate s' Answer) z.value driven.stage z.ask in
      subst (λ w. Driven b past (pass (ResultEnd 0) w ∷ own) t') (sym body_asked)
      record {
        result = sym z.runs;
        variable = λ h. driven.variable h ∙ (resting_shut s' z.rest h ∙ sym (z.closed h));
        stage = works opened z.runs z.none (z.ans ∙ empty);
      }
  driven_step x s t (supplies slot s' t' z) past own driven comes = supplied_driven slot s' t' z own past driven
  driven_step x s t (ended s' t' z) past own driven comes =
      let (opened, none, empty) = when_working b.server.runs is.server.rests (is_open past (ResultEnd 0)) (s'.state b.own).phase (gate s' Request) (gate s' Answer) driven.stage z.runs in
      subst (λ w. Driven b past (pass (ResultEnd 0) w ∷ own) t') (sym body_told)
      record {
        result = sym (ap b.server.runs z.rest ∙ is.server.rests);
        variable = λ h. driven.variable h ∙ (z.closed h ∙ sym (resting_shut t' z.rest h));
        stage = has_ended z.value opened z.rest (z.ask ∙ none) z.ans;
      }
  driven_step x s t (lost j k v s' t' c there none unseen same) past own driven comes =
      let now = driven_same past own s' t' same driven in record { result = now.result; variable = now.variable; stage = now.stage }

  pub seen_runs : (x : Element) (s w : Tokens) (z : Step r b x s w) (ys : List Element) (u : Tokens) → Runs b.body ys (cut_tokens b.cut b.body w) u
      → Runs b.body (seen x s w z ++ ys) (cut_tokens b.cut b.body s) u
  seen_runs x s w (of_body x' y s' t' local sees same) ys u runs = (cut_tokens b.cut b.body t', sees, runs)
  seen_runs x s w (asked v s' t' small unseen state ask ans) ys u runs = subst (λ (a : Tokens). Runs b.body ys a u) unseen runs
  seen_runs x s w (told v s' t' unseen state ans none ask) ys u runs = subst (λ (a : Tokens). Runs b.body ys a u) unseen runs
  seen_runs x s w (starts s' t' z) ys u runs = (cut_tokens b.cut b.body t', z.sees, runs)
  seen_runs x s w (supplies slot s' t' z) ys u runs =
      runs_then b.body (Out (ImportEnd b.place z.serves.at) z.value ∷ In (ImportEnd b.place z.serves.back) (z.serves.number z.value) ∷ []) ys (cut_tokens b.cut b.body s')
      (cut_tokens b.cut b.body t') u z.served runs
  seen_runs x s w (ended s' t' z) ys u runs = (cut_tokens b.cut b.body t', z.sees, runs)
  seen_runs x s w (lost j k v s' t' c there none unseen same) ys u runs = subst (λ (a : Tokens). Runs b.body ys a u) unseen runs

  pub driven_first : (s : Tokens) → IsIdle r s → Driven b [] [] s
  driven_first s rests =
      record {
        result = sym (ap b.server.runs (rests.1 b.own) ∙ is.server.rests);
        variable = λ h. sym (resting_shut s (rests.1 b.own) h);
        stage = idle refl (rests.1 b.own) (rests.0 Request (ResultEnd 0)) (rests.0 Answer (ResultEnd 0));
      }
