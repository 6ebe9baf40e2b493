-- The session of a variable's plan within a lone write: each element of it is one of the lone write, and is matched as this is.
use Rattle.std.specs.Prelude.{None, slice_get, Contains}
use Rattle.std.proofs.Common.{◌≡◌, ℕ, List, [], ◌∷◌, ◌++◌, Option, Some, inl, inr, refl, sym, ◌∙◌, ap, subst, arith, map}
use Rattle.std.proofs.lemmas.Option.{same_Some}
use Rattle.gos_types.specs.Types.{Com, IsDone}
use Rattle.gos_types.specs.Events.{Direction, Answer}
use Rattle.gos_model.specs.Typing.{Imported}
use Rattle.gos_model.specs.Terms.{Term}
use Rattle.gos_model.specs.Stores.{Store}
use Rattle.gos_model.specs.Moves.{Program, Config, Idle, Running, Act}
use Rattle.gos_plan.specs.Kinds.{Part, Assign}
use Rattle.gos_plan.specs.Firing.{Slot, Ans, Row, State, firing}
use Rattle.gos_plan.specs.Plans.{End, PartEnd, ImportEnd, ResultEnd, Plan, contact_at, contacts_of_import}
use Rattle.gos_plan.specs.Tokens.{Tokens, Element, Fire, Out, In, token_at, end_of, way_of, shake_of, firing_of, Does, Runs, IsIdle, IsQuiet}
use Rattle.gos_plan.specs.TokenBits.{AllFit}
use Rattle.gos_plan.proofs.TokenBitsLemmas.{all_stay_fit}
use Rattle.gos_realises.specs.realises.Regular.{Pass, pass, way_in, way_out, ComesInTurn, KeepsTurns, InputsKeepTurns, IsRegular}
use Rattle.gos_realises.specs.realises.Matched.{shows, GoesOn, Agrees, IsMatched}
use Rattle.gos_realises.proofs.realises.InputLemmas.{passed, passed_then, inputs_then, first_turns, later_turns, outputs_last, runs_then, in_there}
use Rattle.gos_realises.proofs.realises.RingLemmas.{after}
use Rattle.gos_joining.specs.webs.Cutting.{Cut, StandsIn}
use Rattle.gos_programs.proofs.contexts.SilentLemmas.{inner_stays}
use Rattle.gos_nodes.specs.windows.Regions.{whole_element}
use Rattle.gos_nodes.specs.windows.Nodes.{Stage}
use Rattle.gos_nodes.specs.windows.Windows.{seen, StirsOnly, PassesPort}
use Rattle.gos_nodes.proofs.windows.TurnLemmas.{Turned, turns_before, open_before}
use Rattle.gos_nodes.specs.windows.OneSession.{Stays, AllStay}
use Rattle.gos_nodes.specs.assignments.Writes.{waits_at, IsWriteStage, HasStages}
use Rattle.gos_nodes.proofs.windows.RunnerLemmas as runners
use Rattle.gos_nodes.specs.assignments.Windows.{assign_runner}
use Rattle.gos_nodes.specs.assignments.Realised.{session_shows, IsSessionMatched}
use Rattle.gos_nodes.specs.assignments.Variables.{lone_stage}
use Rattle.gos_nodes.proofs.windows.OneSessionLemmas.{open_then}
use Rattle.gos_nodes.proofs.assignments.AssignLemmas.{has_stages}
use Rattle.gos_nodes.proofs.assignments.OwnLemmas as table
use Rattle.gos_nodes.proofs.windows.StageLemmas.{Ran, OnStage, lies, end_is, fires_in, out_in, answers}
use Rattle.gos_nodes.proofs.windows.LiftLemmas.{Lifted, fire_up, out_up, met_up, goes_down}
use Rattle.gos_nodes.proofs.windows.FollowLemmas.{Follows, has_ports, standing, follows_step, whole_turned, goes_as}
use Rattle.gos_nodes.proofs.windows.MeetLemmas.{Meets, HasPorts, met_at, met_contacts, heard_meets}
use Rattle.gos_nodes.proofs.nodes.RegionLemmas.{outside_stays, out_shown, in_shown}
use Rattle.gos_nodes.proofs.nodes.ChildLemmas.{Stirred, stirred}
use Rattle.gos_nodes.proofs.assignments.SessionLemmas.{stay_shows}

module _
    (q : Plan) (d w : ℕ) (f : Cut) (p : Plan) (base : HasStages q d w (lone_stage f p ∷ [])) (outcome : q.outcome ≡ Com) (regular : IsRegular q)
    (before first : Tokens) (idle_first : IsIdle q first) where
  abbrev pub g : Stage
  g = lone_stage f p

  abbrev pub gs : List Stage
  gs = g ∷ []

  pub has : Contains gs g
  has = (0, omega arith, refl)

  pub there : IsWriteStage q d w g
  there = base.stages g has

  abbrev pub asking : runners.HasStages q d (assign_runner w) gs
  asking = has_stages q d w gs base

  pub done : IsDone q.outcome
  done = subst IsDone (sym outcome) tt

  -- where the session is, in the plan and in the lone write
  pub record At (hs ks : List Element) (s : Tokens) : Type 0 where
    pub ran : Ran q d (assign_runner w) gs asking g has before hs s
    pub stirs : StirsOnly d (assign_runner w) g s
    pub whole : Runs q ks first s
    pub turns : InputsKeepTurns q [] ks
    pub turned : Turned q (passed q [] ks)
    pub follows : Follows q (assign_runner w) g (passed p [] hs) (passed q [] ks)
    pub fit : AllFit q s

  pub record Up (hs ks : List Element) (y : Element) (s u : Tokens) : Type 0 where
    pub to : Tokens
    pub does : Does q (whole_element f y) s to
    pub same : seen g to ≡ u
    pub at : At (hs ++ y ∷ []) (ks ++ whole_element f y ∷ []) to
    pub port : PassesPort q g y
    pub turn : InputsKeepTurns q (passed q [] ks) (whole_element f y ∷ [])

  make : (hs ks : List Element) (y : Element) (s u : Tokens) → At hs ks s → Stays p y → PassesPort q g y → InputsKeepTurns p (passed p [] hs) (y ∷ []) → Does p y (seen g s) u
      → Lifted q d (assign_runner w) gs asking g has (whole_element f y) s u → InputsKeepTurns q (passed q [] ks) (whole_element f y ∷ []) → Turned q (after q (whole_element f y) (passed q [] ks))
      → Follows q (assign_runner w) g (after p y (passed p [] hs)) (after q (whole_element f y) (passed q [] ks)) → Up hs ks y s u
  make hs ks y s u at stays port own_turn own_does lifted turn turned follows =
      record {
        to = lifted.to;
        does = lifted.does;
        same = lifted.same;
        at =
            record {
              ran =
                  record {
                    idle = at.ran.idle;
                    ran = runs_then p hs y before (seen g s) (seen g lifted.to) at.ran.ran own;
                    turns = inputs_then p [] hs (y ∷ []) at.ran.turns own_turn;
                    tidy = at.ran.tidy;
                    session = open_then 1 p hs y at.ran.session stays;
                  };
              stirs =
                  record {
                    session =
                        ap (λ (x : State). waits_at x.phase) (outside_stays q g there.region d there.outside y s (seen g lifted.to) lifted.to own lifted.does) ∙ at.stirs.session;
                    states = λ i apart out.
                        ap (λ (x : State). x.phase) (outside_stays q g there.region i out y s (seen g lifted.to) lifted.to own lifted.does) ∙ at.stirs.states i apart out;
                    places = lifted.within;
                  };
              whole = runs_then q ks (whole_element f y) first s lifted.to at.whole lifted.does;
              turns = inputs_then q [] ks (whole_element f y ∷ []) at.turns turn;
              turned = subst (Turned q) (sym (passed_then q [] ks (whole_element f y))) turned;
              follows =
                  subst (λ (x : List Pass). Follows q (assign_runner w) g x (passed q [] (ks ++ whole_element f y ∷ []))) (sym (passed_then p [] hs y))
                  (subst (λ (x : List Pass). Follows q (assign_runner w) g (after p y (passed p [] hs)) x) (sym (passed_then q [] ks (whole_element f y))) follows);
              fit = all_stay_fit q (whole_element f y ∷ []) s lifted.to base.right base.literals at.fit (lifted.to, lifted.does, refl);
            };
        port = port;
        turn = turn;
      }
    where
      own : Does p y (seen g s) (seen g lifted.to)
      own = subst (λ (x : Tokens). Does p y (seen g s) x) (sym lifted.same) own_does

  ways_out : (i h : ℕ) → StandsIn p (ImportEnd i h) → way_out (contact_at q (f.outer (ImportEnd i h))) ≡ way_out (contact_at p (ImportEnd i h))
  ways_out i h stands = ap way_out (there.region.contacts (ImportEnd i h) tt stands)

  follows_at : (own past : List Pass) → Follows q (assign_runner w) g own past → (i h : ℕ) → Meets q f p i h → (way other : Direction) → other ≡ way
      → Follows q (assign_runner w) g (pass (ImportEnd i h) way ∷ own) (pass (f.outer (ImportEnd i h)) other ∷ past)
  follows_at own past follows i h meets way other same =
      subst (λ (x : Direction). Follows q (assign_runner w) g (pass (ImportEnd i h) way ∷ own) (pass (f.outer (ImportEnd i h)) x ∷ past)) (sym same)
      (follows_step q d (assign_runner w) gs asking g has own past follows i h (f.outer (ImportEnd i h)) meets refl way)

  pub up : (hs ks : List Element) (y : Element) (s u : Tokens) → At hs ks s → Stays p y → InputsKeepTurns p (passed p [] hs) (y ∷ []) → Does p y (seen g s) u → Up hs ks y s u
  up hs ks (Fire j slot) s u at stays own_turn does =
      make hs ks (Fire j slot) s u at stays tt own_turn does (fire_up q d (assign_runner w) gs asking g has before s hs at.ran at.stirs.places j slot u does) tt at.turned at.follows
  up hs ks (Out (PartEnd i h) v) s u at stays own_turn does = absurd stays
  up hs ks (Out (ResultEnd h) v) s u at stays own_turn does = absurd stays
  up hs ks (Out (ImportEnd i h) v) s u at stays own_turn does =
      make hs ks (Out (ImportEnd i h) v) s u at stays (there.ports i h stays) own_turn does lifted tt kept.1
      (follows_at (passed p [] hs) (passed q [] ks) at.follows i h (standing q d (assign_runner w) gs asking g has i h stays) (way_out (contact_at p (ImportEnd i h))) (way_out (contact_at q b)) (ways_out i h stays))
    where
      b : End
      b = f.outer (ImportEnd i h)

      lifted : Lifted q d (assign_runner w) gs asking g has (Out b v) s u
      lifted = out_up q d (assign_runner w) gs asking g has s at.stirs.places i h v u stays does

      kept : KeepsTurns q (passed q [] ks) (pass b (way_out (contact_at q b)))
      kept =
          let all = regular first lifted.to (ks ++ Out b v ∷ []) idle_first (runs_then q ks (Out b v) first s lifted.to at.whole lifted.does) (inputs_then q [] ks (Out b v ∷ []) at.turns tt) in
          (outputs_last q [] ks (Out b v ∷ []) all.1).0
  up hs ks (In (PartEnd i h) v) s u at stays own_turn does = absurd stays
  up hs ks (In (ResultEnd h) v) s u at stays own_turn does = absurd stays
  up hs ks (In (ImportEnd i h) v) s u at stays own_turn does =
      make hs ks (In (ImportEnd i h) v) s u at stays (met_at q f p ports i h meets) own_turn does
      (met_up q d (assign_runner w) gs asking g has s at.stirs.places i h v u meets does) (turn, tt) turn.1 follows
    where
      b : End
      b = f.outer (ImportEnd i h)

      ports : HasPorts q f p
      ports = has_ports q d (assign_runner w) gs asking g has

      -- it is an import of which something is open
      meets : Meets q f p i h
      meets =
          let (c, at_end) = in_there p (ImportEnd i h) v (seen g s) u does in
          let (n, up, which) = open_before p (passed p [] hs) i h c at_end own_turn.0 in
          let beside = at.follows.imports.met i n up in
          let (k, at_n, same) = met_at q f p ports i n beside in
          elim which [
            | inl one ↦ subst (λ (m : ℕ). Meets q f p i m) one beside
            | inr asks ↦
                (heard_meets q f p ports i n k h c beside at_n (ap (λ (o : Option Imported). slice_get (contacts_of_import o) h) same ∙ at_end) asks).0
          ]

      way : Direction
      way = way_in (contact_at p (ImportEnd i h))

      ways_in : way_in (contact_at q b) ≡ way
      ways_in = ap way_in (met_contacts q f p ports i h b meets refl)

      follows : Follows q (assign_runner w) g (after p (In (ImportEnd i h) v) (passed p [] hs)) (after q (In b v) (passed q [] ks))
      follows = follows_at (passed p [] hs) (passed q [] ks) at.follows i h meets way (way_in (contact_at q b)) ways_in

      turn : KeepsTurns q (passed q [] ks) (pass b (way_in (contact_at q b)))
      turn = (
        subst (λ (x : Direction). ComesInTurn (passed q [] ks) b x) (sym ways_in)
            (goes_as q d (assign_runner w) gs asking g has (passed p [] hs) (passed q [] ks) at.follows i h b meets refl way own_turn.0.0),
        whole_turned q d (assign_runner w) gs asking g has (after p (In (ImportEnd i h) v) (passed p [] hs)) (after q (In b v) (passed q [] ks)) follows done own_turn.0.1,
      )

  -- where the plan is quiet, so is the lone write
  pub quiet_up : (hs ks : List Element) (s : Tokens) → At hs ks s → IsQuiet p (seen g s) → IsQuiet q s
  quiet_up hs ks s at quiet = (fires_not, outs_not)
    where
      outs_not : (b : End) (v : ℕ) (t : Tokens) → Does q (Out b v) s t → ⊥
      outs_not b v t does =
          let found = out_in q d (assign_runner w) gs asking g has b v s t at.stirs.places does in quiet.1 (ImportEnd found.0 found.1) v (seen g t) found.4

      of_own : (i : ℕ) (slot : Slot) (v : ℕ) (row : Row) → f.number i ≡ None → token_at q s (end_of i slot) (way_of slot) ≡ Some v
          → firing_of (slice_get q.parts i) (s.state i) slot ≡ Some row → ⊥
      of_own i slot v row out held by = quiet.1 (ResultEnd 1) v _ (answers q d (assign_runner w) gs asking g has s at.stirs.places v held_so).0
        where
          on : OnStage q d (assign_runner w) gs asking g has (end_of i slot)
          on = lies q d (assign_runner w) gs asking g has s at.stirs.places (end_of i slot) (way_of slot) v held

          which : (i ≡ d) × (shake_of slot ≡ 1) × StandsIn p (ResultEnd 1)
          which =
              elim (end_is q d (assign_runner w) gs asking g has i (shake_of slot) on.own on.owned on.stands on.lies) [
                | inl inside ↦ (let clash : None ≡ Some inside.0 = sym out ∙ inside.1 in absurd (cc clash))
                | inr is ↦ is
              ]

          by_own : firing (Assign w) (s.state d) slot ≡ Some row
          by_own =
              subst (λ (o : Option Part). firing_of o (s.state d) slot ≡ Some row) base.own
              (ap (λ (n : ℕ). firing_of (slice_get q.parts n) (s.state n) slot) (sym which.0) ∙ by)

          slot_is : slot ≡ Ans 1
          slot_is =
              elim (table.no_other w (s.state d) slot row by_own) [
                | inl (resting, is) ↦ absurd (table.none_at_rest (s.state d).phase 1 resting at.stirs.session)
                | inr (h, is, asked) ↦ asked ∙ ap Ans (same_Some h 1 (sym is ∙ at.stirs.session))
              ]

          held_so : token_at q s (PartEnd d 1) Answer ≡ Some v
          held_so = (λ x. token_at q s (end_of (sym which.0 x) (sym slot_is x)) (way_of (sym slot_is x))) ∙ held

      fires_not : (i : ℕ) (slot : Slot) (t : Tokens) → Does q (Fire i slot) s t → ⊥
      fires_not i slot t does = by_number (f.number i) refl
        where
          by_number : (o : Option ℕ) → f.number i ≡ o → ⊥
          by_number None out = let (v, row, held, by, leads) = does in of_own i slot v row out held by
          by_number (Some j) number =
              quiet.0 j slot (seen g t) (fires_in q d (assign_runner w) gs asking g has before s t hs at.ran at.stirs.places i j number slot does).0

  running_is_not_idle : (b : Term) (st : Store) → Running b st ≡ Idle → ⊥
  running_is_not_idle b st e = cc e

  pub agrees_down : (G : Program) (hs ks : List Element) (s : Tokens) (b : Term) (st : Store) → At hs ks s → Agrees q G s (Running b st) → Agrees p G (seen g s) (Running b st)
  agrees_down G hs ks s b st at agrees = (λ quiet. agrees.0 (quiet_up hs ks s at quiet), λ e. absurd (running_is_not_idle b st e))

  -- what the lone write shows, the session shows
  shown_down : (y : Element) → Stays p y → PassesPort q g y → shows q (whole_element f y) ≡ session_shows p y
  shown_down (Fire j slot) stays port = refl
  shown_down (Out (PartEnd i h) v) stays port = absurd stays
  shown_down (Out (ResultEnd h) v) stays port = absurd stays
  shown_down (Out (ImportEnd i h) v) stays port = out_shown q g i h v port
  shown_down (In (PartEnd i h) v) stays port = absurd stays
  shown_down (In (ResultEnd h) v) stays port = absurd stays
  shown_down (In (ImportEnd i h) v) stays port = in_shown q g i h v port

  goes_so : (y : Element) (s u : Tokens) (acts : List Act) → Does p y (seen g s) u → GoesOn q s (whole_element f y) acts → GoesOn p (seen g s) y acts
  goes_so (Fire j slot) s u acts does goes = goes_down q d (assign_runner w) gs asking g has s u j slot acts does goes
  goes_so (Out e v) s u acts does goes = tt
  goes_so (In e v) s u acts does goes = tt

  -- the session's end, in the plan and in the lone write
  pub record Tails (G : Program) (tp tq : List Element) : Type 0 where
    pub runs :
        (hs ks : List Element) (s u : Tokens) → At hs ks s → Runs p tp (seen g s) u
        → (t : Tokens) × Runs q tq s t × InputsKeepTurns q (passed q [] ks) tq
    pub matched :
        (hs ks : List Element) (s : Tokens) (b : Term) (st : Store) → At hs ks s → IsMatched q G tq s (Running b st)
        → IsSessionMatched p G tp (seen g s) (Running b st)

  -- turns of a list, element by element
  turns_on : (hs : List Element) (y : Element) (ys : List Element) → InputsKeepTurns p (passed p [] hs) (y ∷ ys) → InputsKeepTurns p (passed p [] (hs ++ y ∷ [])) ys
  turns_on hs y ys turns = subst (λ (x : List Pass). InputsKeepTurns p x ys) (sym (passed_then p [] hs y)) (later_turns p (passed p [] hs) y ys turns)

  turns_joined : (ks : List Element) (y : Element) (zs : List Element) → InputsKeepTurns q (passed q [] ks) (y ∷ []) → InputsKeepTurns q (passed q [] (ks ++ y ∷ [])) zs
      → InputsKeepTurns q (passed q [] ks) (y ∷ zs)
  turns_joined ks y zs one others = turns_before q (passed q [] ks) y zs one (subst (λ (x : List Pass). InputsKeepTurns q x zs) (passed_then q [] ks y) others)

  module _ (G : Program) (tp tq : List Element) (tails : Tails G tp tq) where
    -- the lone write has the list
    pub runs_up : (zs : List Element) → AllStay p zs → (hs ks : List Element) (s u : Tokens) → At hs ks s → Runs p (zs ++ tp) (seen g s) u
        → InputsKeepTurns p (passed p [] hs) (zs ++ tp)
        → (t : Tokens) × Runs q (map (whole_element f) zs ++ tq) s t × InputsKeepTurns q (passed q [] ks) (map (whole_element f) zs ++ tq)
    runs_up [] all hs ks s u at runs turns = tails.runs hs ks s u at runs
    runs_up (y ∷ zs) (one, all) hs ks s u at (v, does, runs) turns =
        let step = up hs ks y s v at one (first_turns p (passed p [] hs) y (zs ++ tp) turns) does in
        let (t, later, kept) =
        runs_up zs all (hs ++ y ∷ []) (ks ++ whole_element f y ∷ []) step.to u step.at (subst (λ (x : Tokens). Runs p (zs ++ tp) x u) (sym step.same) runs)
        (turns_on hs y (zs ++ tp) turns) in
        (t, (step.to, step.does, later), turns_joined ks (whole_element f y) (map (whole_element f) zs ++ tq) step.turn kept)

    -- and where it is matched, so is the session
    pub matched_down : (zs : List Element) → AllStay p zs → (hs ks : List Element) (s : Tokens) (b : Term) (st : Store) → At hs ks s
        → InputsKeepTurns p (passed p [] hs) (zs ++ tp) → IsMatched q G (map (whole_element f) zs ++ tq) s (Running b st)
        → IsSessionMatched p G (zs ++ tp) (seen g s) (Running b st)
    matched_down [] all hs ks s b st at turns matched = tails.matched hs ks s b st at matched
    matched_down (y ∷ zs) (one, all) hs ks s b st at turns (agrees, next) = (
      agrees_down G hs ks s b st at agrees,
      λ u does.
          let step = up hs ks y s u at one (first_turns p (passed p [] hs) y (zs ++ tp) turns) does in
          let n = next step.to step.does in
          let shown = n.3 ∙ shown_down y one step.port in
          let goes = goes_so y s u n.0 does n.4 in
          let own : Does p y (seen g s) (seen g step.to) = subst (λ (x : Tokens). Does p y (seen g s) x) (sym step.same) does in
          let stir : Stirred q g y s n.0 = stirred q g there.region y s (seen g step.to) step.to n.0 own one step.port step.does (shown ∙ stay_shows g.plan y one) goes in
          let stays = inner_stays G n.0 b st n.1 stir.inner n.2 in
          let rest =
          matched_down zs all (hs ++ y ∷ []) (ks ++ whole_element f y ∷ []) step.to stays.0 stays.1 step.at (turns_on hs y (zs ++ tp) turns)
          (subst (λ (x : Config). IsMatched q G (map (whole_element f) zs ++ tq) step.to x) stays.2 n.5) in (
            n.0,
            n.1,
            n.2,
            shown,
            goes,
            subst (λ (x : Config). IsSessionMatched p G (zs ++ tp) u x) (sym stays.2)
                (subst (λ (x : Tokens). IsSessionMatched p G (zs ++ tp) x (Running stays.0 stays.1)) step.same rest),
          ),
    )

  -- a session that has not ended
  pub no_tails : (G : Program) → Tails G [] []
  no_tails G =
      record {
        runs = λ hs ks s u at runs. (s, refl, tt);
        matched = λ hs ks s b st at matched. agrees_down G hs ks s b st at matched;
      }
