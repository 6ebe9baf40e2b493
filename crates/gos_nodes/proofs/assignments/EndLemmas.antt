-- How the session of a variable's plan ends within a lone write: the Assign takes the answer, and the lone write answers.
use Rattle.std.specs.Prelude.{◌≢◌, ◌&&◌, None, slice_get, Contains, length, nat_lt}
use Rattle.std.proofs.Common.{◌≡◌, ℕ, Bool, true, false, List, [], ◌∷◌, ◌++◌, Option, Some, refl, sym, ◌∙◌, ap, subst, arith, if◌then◌else◌}
use Rattle.gos_types.specs.Types.{Com}
use Rattle.gos_types.specs.Events.{Direction, Answer}
use Rattle.gos_types.proofs.BoolLemmas.{and_second}
use Rattle.gos_model.specs.Terms.{Term}
use Rattle.gos_model.specs.Stores.{Store}
use Rattle.gos_model.specs.Labels.{given}
use Rattle.gos_model.specs.Moves.{Program, Config, Idle, Running, Act, Moves, labels, Stalled}
use Rattle.gos_model.proofs.MoveLemmas.{labels_then, idle_is_stalled}
use Rattle.gos_plan.specs.Kinds.{Part, Contact, Assign, asks, contacts_of}
use Rattle.gos_plan.specs.Firing.{Rest, State, Slot, Ans, Row, Token, at, firing}
use Rattle.gos_plan.specs.Plans.{End, PartEnd, ImportEnd, ResultEnd, Plan, contact_at, same_end, turned_if}
use Rattle.gos_plan.specs.Tokens.{Tokens, Element, Fire, Out, places_of, same_way, with_held, with_token, with_state, with_puts, token_at, end_of, way_of, way_taken, fired, firing_of, Passes, Does, IsIdle}
use Rattle.gos_plan.proofs.DecidedLemmas.{one_state}
use Rattle.gos_plan.proofs.HeldLemmas.{takes_of}
use Rattle.gos_plan.proofs.JointLemmas.{IsIn, stands_there, contained, same_is, asking_stands, serving_stands}
use Rattle.gos_plan.proofs.TurnLemmas.{token_state}
use Rattle.gos_realises.specs.realises.Regular.{IsRegular}
use Rattle.gos_realises.specs.realises.Matched.{shows, GoesOn, Agrees, IsMatched}
use Rattle.gos_realises.proofs.realises.InputLemmas.{out_there}
use Rattle.gos_programs.proofs.results.ResultLemmas.{moves_then}
use Rattle.gos_joining.specs.webs.Webs.{joint}
use Rattle.gos_joining.specs.webs.Cutting as cutting
use Rattle.gos_joining.specs.webs.Cutting.{Cut, lies_at, StandsIn}
use Rattle.gos_joining.proofs.webs.CutLemmas.{Owns, asker_own, number_at}
use Rattle.gos_programs.proofs.contexts.SilentLemmas.{silent_inner, inner_stays, answer_last}
use Rattle.gos_nodes.proofs.nodes.PortLemmas.{answer_shown}
use Rattle.gos_nodes.specs.windows.Nodes.{Stage}
use Rattle.gos_nodes.specs.windows.Windows.{seen}
use Rattle.gos_nodes.proofs.windows.InlayLemmas.{inlay}
use Rattle.gos_nodes.proofs.windows.WholeLemmas.{zero_only}
use Rattle.gos_nodes.specs.assignments.Writes.{HasStages}
use Rattle.gos_nodes.specs.assignments.Variables.{lone_stage}
use Rattle.gos_nodes.proofs.windows.AskedLemmas.{asked_role}
use Rattle.gos_nodes.proofs.windows.RunnerLemmas as runners
use Rattle.gos_nodes.specs.assignments.Windows.{assign_runner}
use Rattle.gos_nodes.proofs.assignments.AskedLemmas.{asked_by}
use Rattle.gos_nodes.proofs.assignments.AssignLemmas.{has_stages}
use Rattle.gos_nodes.proofs.assignments.OwnLemmas as table
use Rattle.gos_nodes.proofs.windows.StageLemmas.{cut, InStage, answers, answer_fits}
use Rattle.gos_nodes.proofs.windows.LiftLemmas.{held_whole, stage_stands}
use Rattle.gos_nodes.proofs.assignments.PrefixLemmas.{lies_across, state_apart, apart_if}
use Rattle.gos_nodes.proofs.assignments.CourseLemmas as course
use Rattle.gos_nodes.proofs.assignments.CourseLemmas.{At, Tails}

-- another place
place_apart : (r : Plan) (a x y : End) (way w : Direction) (held : Option ℕ) (s : Tokens) → places_of r a ≡ Some x → y ≢ x
    → (with_token r a way held s).in_place w y ≡ s.in_place w y
place_apart r a x y way w held s at_a apart =
    subst (λ (o : Option End). (with_held way o held s).in_place w y ≡ s.in_place w y) (sym at_a) (by_test (same_way w way && same_end y x) refl)
  where
    by_test : (t : Bool) → same_way w way && same_end y x ≡ t → (if t then held else s.in_place w y) ≡ s.in_place w y
    by_test true t = absurd (apart (same_is y x (and_second (same_way w way) (same_end y x) t)))
    by_test false t = refl

module _
    (q : Plan) (d w : ℕ) (f : Cut) (p : Plan) (base : HasStages q d w (lone_stage f p ∷ [])) (outcome : q.outcome ≡ Com) (regular : IsRegular q)
    (run : Contains q.joints (joint (ResultEnd 0) (PartEnd d 2))) (before first : Tokens) (idle_first : IsIdle q first) where
  abbrev g : Stage
  g = lone_stage f p

  abbrev gs : List Stage
  gs = g ∷ []

  has : Contains gs g
  has = (0, omega arith, refl)

  abbrev asking : runners.HasStages q d (assign_runner w) gs
  asking = has_stages q d w gs base

  run_in : IsIn (joint (ResultEnd 0) (PartEnd d 2)) q.joints
  run_in = contained q.joints (joint (ResultEnd 0) (PartEnd d 2)) run

  result_place : places_of q (ResultEnd 0) ≡ Some (ResultEnd 0)
  result_place = stands_there q (joint (ResultEnd 0) (PartEnd d 2)) (ResultEnd 0) base.right run_in (asking_stands (joint (ResultEnd 0) (PartEnd d 2)))

  run_place : places_of q (PartEnd d 2) ≡ Some (ResultEnd 0)
  run_place = stands_there q (joint (ResultEnd 0) (PartEnd d 2)) (PartEnd d 2) base.right run_in (serving_stands (joint (ResultEnd 0) (PartEnd d 2)))

  done_so : contact_at q (ResultEnd 0) ≡ Some (asks 0 0)
  done_so = ap (λ t. turned_if (slice_get (contacts_of t) 0)) outcome

  not_result : (e : End) → cutting.asks_in p.joints e ≡ true → lies_at f e ≢ ResultEnd 0
  not_result e asking = of_end e (asker_own p (base.stages g has).region.right e asking)
    where
      of_end : (e : End) → Owns p e → lies_at f e ≢ ResultEnd 0
      of_end (PartEnd i h) stands is = cc is
      of_end (ImportEnd i h) stands is =
          let (n, at_n, same) = (base.stages g has).ports i h stands in
          let clash : ImportEnd n h ≡ ResultEnd 0 = sym at_n ∙ is in cc clash
      of_end (ResultEnd h) stands is =
          let there = base.stages g has in
          let one = there.only h stands in
          let here = subst (λ (n : ℕ). StandsIn p (ResultEnd n)) one stands in
          let clash : PartEnd d 1 ≡ ResultEnd 0 = sym (there.run_by here) ∙ (ap (λ (n : ℕ). f.outer (ResultEnd n)) (sym one) ∙ is) in cc clash

  module _ (hs ks : List Element) (s : Tokens) (v : ℕ) (u : Tokens) (at_s : At q d w f p base outcome regular before first idle_first hs ks s) (own_does : Does p (Out (ResultEnd 1) v) (seen g s) u) where
    c : (c : Contact) × (contact_at p (ResultEnd 1) ≡ Some c)
    c = out_there p (ResultEnd 1) v (seen g s) u own_does

    own_held : token_at p (seen g s) (ResultEnd 1) Answer ≡ Some v
    own_held =
        let there = base.stages g has in
        ap (λ (x : Direction). token_at p (seen g s) (ResultEnd 1) x) (ap way_taken (asked_role p 1 _ _ (asked_by p 1 w there.low there.outcome) c.0 c.1))
        ∙ (subst (λ (o : Option Contact). Passes p (Out (ResultEnd 1) v) o (seen g s) u) c.1 own_does.1).0

    stands : StandsIn p (ResultEnd 1)
    stands = stage_stands q d (assign_runner w) gs asking g has s (ResultEnd 1) Answer v own_held

    held : token_at q s (PartEnd d 1) Answer ≡ Some v
    held =
        ap (λ (e : End). token_at q s e Answer) (sym ((base.stages g has).run_by stands))
        ∙ held_whole q d (assign_runner w) gs asking g has s (ResultEnd 1) stands Answer v own_held

    zero_is : v ≡ 0
    zero_is = zero_only v (answer_fits q d (assign_runner w) gs asking g has s at_s.fit at_s.stirs.places v held)

    pub takes : (row : Row) × (firing (Assign w) (s.state d) (Ans 1) ≡ Some row)
    takes = table.takes_answer w (s.state d) 1 at_s.stirs.session

    abbrev pub row : Row
    row = takes.0

    by : firing_of (slice_get q.parts d) (s.state d) (Ans 1) ≡ Some row
    by = ap (λ (o : Option Part). firing_of o (s.state d) (Ans 1)) base.own ∙ takes.1

    abbrev pub taken : Tokens
    taken = with_token q (PartEnd d 1) Answer None s

    abbrev pub between : Tokens
    between = with_state d (row.next v) taken

    abbrev pub t1 : Tokens
    t1 = fired q d row v s

    t1_is : t1 ≡ with_token q (PartEnd d 2) Answer (Some 0) between
    t1_is =
        ap (λ (x : Slot). with_puts q d (row.puts v) (with_state d (row.next v) (with_token q (end_of d x) (way_of x) None s)))
        (takes_of (slice_get q.parts d) (s.state d) (Ans 1) row by)
        ∙ ap (λ (ts : List Token). with_puts q d ts between) (table.answers_zero w (s.state d) v row at_s.stirs.session takes.1)

    abbrev pub t2 : Tokens
    t2 = with_token q (ResultEnd 0) Answer None t1

    pub does_fire : Does q (Fire d (Ans 1)) s t1
    does_fire = (v, row, held, by, refl)

    pub does_out : Does q (Out (ResultEnd 0) 0) t1 t2
    does_out = (
      tt,
      subst (λ (o : Option Contact). Passes q (Out (ResultEnd 0) 0) o t1 t2) (sym done_so)
          (subst (λ (x : Tokens). token_at q x (ResultEnd 0) Answer ≡ Some 0) (sym t1_is) (lies_across q (PartEnd d 2) (ResultEnd 0) (ResultEnd 0) Answer 0 between run_place result_place), refl),
    )

    -- what the plan sees
    own : Does p (Out (ResultEnd 1) v) (seen g s) (seen g taken) × InStage q d (assign_runner w) gs asking g has taken
    own = answers q d (assign_runner w) gs asking g has s at_s.stirs.places v held

    seen_is : seen g taken ≡ u
    seen_is = one_state p (Out (ResultEnd 1) v) (seen g s) (seen g taken) u own.0 own_does

    place_so : (way : Direction) (x : End) → x ≢ ResultEnd 0 → t2.in_place way x ≡ taken.in_place way x
    place_so way x apart =
        place_apart q (ResultEnd 0) (ResultEnd 0) x Answer way None t1 result_place apart
        ∙ (ap (λ (y : Tokens). y.in_place way x) t1_is ∙ place_apart q (PartEnd d 2) (ResultEnd 0) x Answer way (Some 0) between run_place apart)

    state_so : (i : ℕ) → i ≢ d → t2.state i ≡ taken.state i
    state_so i apart =
        token_state q (ResultEnd 0) Answer None t1 i
        ∙ (ap (λ (y : Tokens). y.state i) t1_is
        ∙ (token_state q (PartEnd d 2) Answer (Some 0) between i ∙ state_apart d i (row.next v) taken apart))

    pub idle_down : IsIdle q t2 → IsIdle p u
    idle_down idle = subst (IsIdle p) seen_is (places, states)
      where
        by_asks : (way : Direction) (e : End) (t : Bool) → cutting.asks_in p.joints e ≡ t → (if t then taken.in_place way (lies_at f e) else None) ≡ None
        by_asks way e true asking = sym (place_so way (lies_at f e) (not_result e asking)) ∙ idle.0 way (lies_at f e)
        by_asks way e false asking = refl

        places : (way : Direction) (e : End) → (seen g taken).in_place way e ≡ None
        places way e = by_asks way e (cutting.asks_in p.joints e) refl

        by_part : (i : ℕ) (t : Bool) → nat_lt i (length p.parts) ≡ t → (if t then taken.state (f.part i) else at Rest 0).phase ≡ Rest
        by_part i true within =
            let number = number_at f (inlay f q p) p (cut q d (assign_runner w) gs asking g has) (Assign w) i within in
            let apart = apart_if f d (f.part i) (base.stages g has).outside i number in
            ap (λ (x : State). x.phase) (sym (state_so (f.part i) apart)) ∙ idle.1 (f.part i)
        by_part i false within = refl

        states : (i : ℕ) → ((seen g taken).state i).phase ≡ Rest
        states i = by_part i (nat_lt i (length p.parts)) refl

  pub ended_tails : (G : Program) (v : ℕ) → Tails q d w f p base outcome regular before first idle_first G (Out (ResultEnd 1) v ∷ []) (Fire d (Ans 1) ∷ Out (ResultEnd 0) 0 ∷ [])
  ended_tails G v =
      record {
        runs = λ hs ks s u at_s (x, does, is).
            (t2 hs ks s v x at_s does, (t1 hs ks s v x at_s does, does_fire hs ks s v x at_s does, (t2 hs ks s v x at_s does, does_out hs ks s v x at_s does, refl)), tt);
        matched = λ hs ks s b st at_s (agrees, next). (
          course.agrees_down q d w f p base outcome regular before first idle_first G hs ks s b st at_s agrees,
          λ u does. last hs ks s b st at_s next u does,
        );
      }
    where
      last : (hs ks : List Element) (s : Tokens) (b : Term) (st : Store) → (at_s : At q d w f p base outcome regular before first idle_first hs ks s)
          → ((t : Tokens) → Does q (Fire d (Ans 1)) s t
          → (acts : List Act) × (c : Config) × Moves G acts (Running b st) c × (labels acts ≡ shows q (Fire d (Ans 1))) × GoesOn q s (Fire d (Ans 1)) acts
          × IsMatched q G (Out (ResultEnd 0) 0 ∷ []) t c)
          → (u : Tokens) → Does p (Out (ResultEnd 1) v) (seen g s) u
          → (acts : List Act) × (c : Config) × Moves G acts (Running b st) c × (labels acts ≡ given 1 v ∷ []) × GoesOn p (seen g s) (Out (ResultEnd 1) v) acts × Agrees p G u c
      last hs ks s b st at_s next u does =
          let one = next (t1 hs ks s v u at_s does) (does_fire hs ks s v u at_s does) in
          let two = one.5.1 (t2 hs ks s v u at_s does) (does_out hs ks s v u at_s does) in
          let stays = inner_stays G one.0 b st one.1 (silent_inner one.0 one.3) one.2 in
          let shown : labels two.0 ≡ given 1 0 ∷ [] = two.3 ∙ answer_shown q 0 (course.done q d w f p base outcome regular before first idle_first) in
          let ends : two.1 ≡ Idle =
          (answer_last G two.0 stays.0 stays.1 two.1 0 (subst (λ (x : Config). Moves G two.0 x two.1) stays.2 two.2) shown).6 in (
            one.0 ++ two.0,
            two.1,
            moves_then G one.0 two.0 (Running b st) one.1 two.1 one.2 two.2,
            labels_then one.0 two.0
                ∙ (ap (λ ls. ls ++ labels two.0) one.3 ∙ (shown ∙ ap (λ (n : ℕ). given 1 n ∷ []) (sym (zero_is hs ks s v u at_s does)))),
            tt,
            (
              (λ quiet. subst (λ (x : Config). Stalled G x) (sym ends) (idle_is_stalled G)),
              (λ is. idle_down hs ks s v u at_s does (two.5.1 is)),
            ),
          )
