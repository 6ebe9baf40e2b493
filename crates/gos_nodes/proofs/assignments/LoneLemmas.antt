-- A lone write that is regular and realises `M := k` matches the session in which k is written.
use Rattle.std.specs.Prelude.{◌≢◌}
use Rattle.std.proofs.Common.{◌≡◌, ℕ, List, [], ◌∷◌, ◌++◌, inl, inr, refl, sym, ◌∙◌, subst, map}
use Rattle.std.proofs.lemmas.List.{append-nil}
use Rattle.gos_types.specs.Types.{IsDone}
use Rattle.gos_types.specs.Events.{Direction, Request}
use Rattle.gos_model.specs.Terms as terms
use Rattle.gos_model.specs.Terms.{Term}
use Rattle.gos_model.specs.Typing.{Imports}
use Rattle.gos_model.specs.Stores.{Store}
use Rattle.gos_model.specs.Labels.{given}
use Rattle.gos_model.specs.Moves.{Program, Config, Idle, Running, Act, Moves, labels}
use Rattle.gos_plan.specs.Firing.{Req, Ans}
use Rattle.gos_plan.specs.Plans.{ResultEnd, Plan, contact_at}
use Rattle.gos_plan.specs.Tokens.{Tokens, Element, Fire, Out, In, Does, Runs, IsIdle}
use Rattle.gos_plan.proofs.TokenBitsLemmas.{all_stay_fit, idle_fits}
use Rattle.gos_realises.specs.realises.Regular.{pass, way_in, KeepsTurns, InputsKeepTurns, IsRegular}
use Rattle.gos_realises.specs.realises.Matched.{IsMatched, program_of, RealisesInTurn}
use Rattle.gos_realises.proofs.realises.InputLemmas.{passed}
use Rattle.gos_programs.proofs.results.ResultLemmas.{moves_then}
use Rattle.gos_joining.specs.webs.Cutting.{Cut}
use Rattle.gos_programs.proofs.contexts.SilentLemmas.{silent_inner, inner_stays, asked_first}
use Rattle.gos_nodes.proofs.nodes.PortLemmas.{request_shown}
use Rattle.gos_nodes.specs.windows.Regions.{whole_element}
use Rattle.gos_nodes.specs.windows.Nodes.{Stage}
use Rattle.gos_nodes.specs.windows.Windows.{seen}
use Rattle.gos_nodes.proofs.windows.TurnLemmas.{Turned, closed_turned, result_in}
use Rattle.gos_nodes.specs.windows.OneSession.{IsTidy, AllStay, EndsWell}
use Rattle.gos_nodes.specs.assignments.Realised.{IsSessionMatched}
use Rattle.gos_nodes.specs.assignments.Variables.{lone_stage, IsLoneWrite, LoneWriteIsSession}
use Rattle.gos_nodes.proofs.windows.FollowLemmas.{Follows, follows_first}
use Rattle.gos_nodes.proofs.assignments.PrefixLemmas as prefix
use Rattle.gos_nodes.proofs.assignments.CourseLemmas as course
use Rattle.gos_nodes.proofs.windows.AskedLemmas.{asked_in}
use Rattle.gos_nodes.specs.assignments.Windows.{assign_runner}
use Rattle.gos_nodes.proofs.assignments.AskedLemmas.{asked_by}
use Rattle.gos_nodes.proofs.assignments.AssignLemmas.{has_stages}
use Rattle.gos_nodes.proofs.assignments.CourseLemmas.{At, Tails, no_tails}
use Rattle.gos_nodes.proofs.assignments.EndLemmas.{ended_tails}
use Rattle.gos_nodes.proofs.nodes.FollowedLemmas.{more_some, both_silent}

-- The moves of the first four elements: after the request they are silent, and there is a step.
four_moves : (G : Program) (a b c d : List Act) (v w x y : Config) → Moves G a Idle v → labels a ≡ given 0 0 ∷ [] → Moves G b v w → labels b ≡ [] → Moves G c w x
    → labels c ≡ [] → Moves G d x y → labels d ≡ [] → d ≢ []
    → (acts : List Act) × Moves G acts (Running G.body []) y × (labels acts ≡ []) × (acts ≢ []) × (t : Term) × (st : Store) × (y ≡ Running t st)
four_moves G a b c d v w x y one asks two second three third four fourth some =
    let after = asked_first G a v (given 0 0) one asks in
    let last = moves_then G c d w x y three four in
    let late = moves_then G b (c ++ d) v w y two last in
    let moves = moves_then G after.0 (b ++ (c ++ d)) (Running G.body []) v y after.2 late in
    let silent = both_silent after.0 (b ++ (c ++ d)) after.1 (both_silent b (c ++ d) second (both_silent c d third fourth)) in
    let stays = inner_stays G (after.0 ++ (b ++ (c ++ d))) G.body [] y (silent_inner (after.0 ++ (b ++ (c ++ d))) silent) moves in (
      after.0 ++ (b ++ (c ++ d)),
      moves,
      silent,
      more_some after.0 (b ++ (c ++ d)) (more_some b (c ++ d) (more_some c d some)),
      stays.0,
      stays.1,
      stays.2,
    )

module _
    (q : Plan) (d l w k : ℕ) (f : Cut) (p : Plan) (m : Term) (lone : IsLoneWrite q d l w k f p) (regular : IsRegular q)
    (realises : RealisesInTurn q (terms.Assign m (terms.Lit k w))) (before u : Tokens) (tidy : IsTidy p before) (idle : IsIdle p before)
    (does : Does p (In (ResultEnd 1) k) before u) (own_turn : InputsKeepTurns p [] (In (ResultEnd 1) k ∷ [])) where
  abbrev pub g : Stage
  g = lone_stage f p

  abbrev pub term : Term
  term = terms.Assign m (terms.Lit k w)

  abbrev pub G : Program
  G = program_of q term

  done : IsDone q.outcome
  done = subst IsDone (sym lone.outcome) tt

  abbrev pub s0 : Tokens
  s0 = prefix.s0 q d l w k f p lone before u tidy idle does

  abbrev pub s4 : Tokens
  s4 = prefix.s4 q d l w k f p lone before u tidy idle does

  abbrev pub idle_first : IsIdle q s0
  idle_first = prefix.idle_first q d l w k f p lone before u tidy idle does

  abbrev pub first_list : List Element
  first_list = In (ResultEnd 0) 0 ∷ Fire d (Req 2) ∷ Fire l (Req 0) ∷ Fire d (Ans 0) ∷ []

  runs : Runs q first_list s0 s4
  runs = (
    prefix.s1 q d l w k f p lone before u tidy idle does,
    prefix.does1 q d l w k f p lone before u tidy idle does,
    (
      prefix.s2 q d l w k f p lone before u tidy idle does,
      prefix.does2 q d l w k f p lone before u tidy idle does,
      (
        prefix.s3 q d l w k f p lone before u tidy idle does,
        prefix.does3 q d l w k f p lone before u tidy idle does,
        (s4, prefix.does4 q d l w k f p lone before u tidy idle does, refl),
      ),
    ),
  )

  first : Turned q (pass (ResultEnd 0) Request ∷ [])
  first = closed_turned q done (pass (ResultEnd 0) Request ∷ []) (λ i h. refl)

  turn : KeepsTurns q [] (pass (ResultEnd 0) (way_in (contact_at q (ResultEnd 0))))
  turn = subst (λ (way : Direction). KeepsTurns q [] (pass (ResultEnd 0) way)) (sym (result_in q done)) (refl, first)

  -- the plan has been asked
  asked : At q d w f p lone.base lone.outcome regular before s0 idle_first (In (ResultEnd 1) k ∷ []) first_list s4
  asked =
      record {
        ran =
            record {
              idle = idle;
              ran = (seen g s4, prefix.asked_so q d l w k f p lone before u tidy idle does, refl);
              turns = own_turn;
              tidy = tidy;
              session = (refl, tt);
            };
        stirs = prefix.stirs q d l w k f p lone before u tidy idle does;
        whole = runs;
        turns = (turn, tt);
        turned = turn.1;
        follows =
            subst (λ (way : Direction). Follows q (assign_runner w) g (passed p [] (In (ResultEnd 1) k ∷ [])) (pass (ResultEnd 0) way ∷ [])) (sym (result_in q done))
            (subst (λ (way : Direction). Follows q (assign_runner w) g (pass (ResultEnd 1) way ∷ []) (pass (ResultEnd 0) Request ∷ [])) (sym own_in)
            (follows_first q d (assign_runner w) (g ∷ []) (has_stages q d w (g ∷ []) lone.base) g (course.has q d w f p lone.base lone.outcome regular before s0 idle_first) (pass (ResultEnd 0) Request ∷ []) (refl, λ i h. refl)));
        fit = all_stay_fit q first_list s0 s4 lone.base.right lone.base.literals (idle_fits q s0 idle_first) runs;
      }
    where
      own_in : way_in (contact_at p (ResultEnd 1)) ≡ Request
      own_in =
          let there = course.there q d w f p lone.base lone.outcome regular before s0 idle_first in asked_in p 1 _ _ (asked_by p 1 w there.low there.outcome)

  -- its session's list, with this end
  module _
      (tp tq zs : List Element) (tails : Tails q d w f p lone.base lone.outcome regular before s0 idle_first G tp tq) (all : AllStay p zs) (t : Tokens)
      (later : Runs p (zs ++ tp) u t) (turns : InputsKeepTurns p (passed p [] (In (ResultEnd 1) k ∷ [])) (zs ++ tp)) where
    abbrev rest : List Element
    rest = map (whole_element f) zs ++ tq

    seen_is : seen g s4 ≡ u
    seen_is = prefix.seen_after q d l w k f p lone before u tidy idle does

    raised : (x : Tokens) × Runs q rest s4 x × InputsKeepTurns q (passed q [] first_list) rest
    raised =
        course.runs_up q d w f p lone.base lone.outcome regular before s0 idle_first G tp tq tails zs all (In (ResultEnd 1) k ∷ []) first_list s4 t asked
        (subst (λ (x : Tokens). Runs p (zs ++ tp) x t) (sym seen_is) later) turns

    whole_runs : Runs q (In (ResultEnd 0) 0 ∷ Fire d (Req 2) ∷ Fire l (Req 0) ∷ Fire d (Ans 0) ∷ rest) s0 raised.0
    whole_runs = (
      prefix.s1 q d l w k f p lone before u tidy idle does,
      prefix.does1 q d l w k f p lone before u tidy idle does,
      (
        prefix.s2 q d l w k f p lone before u tidy idle does,
        prefix.does2 q d l w k f p lone before u tidy idle does,
        (
          prefix.s3 q d l w k f p lone before u tidy idle does,
          prefix.does3 q d l w k f p lone before u tidy idle does,
          (s4, prefix.does4 q d l w k f p lone before u tidy idle does, raised.1),
        ),
      ),
    )

    matched : IsMatched q G (In (ResultEnd 0) 0 ∷ Fire d (Req 2) ∷ Fire l (Req 0) ∷ Fire d (Ans 0) ∷ rest) s0 Idle
    matched =
        (realises s0 raised.0 (In (ResultEnd 0) 0 ∷ Fire d (Req 2) ∷ Fire l (Req 0) ∷ Fire d (Ans 0) ∷ rest) idle_first whole_runs (turn, raised.2)).0

    abbrev pub Session : Program → Type 0
    Session g =
        (acts : List Act) × (c : Config) × Moves g acts (Running term []) c × (labels acts ≡ []) × (◌≡◌ {A = ℕ} 1 1 → acts ≢ []) × IsSessionMatched p g (zs ++ tp) u c

    in_whole : Session G
    in_whole =
        let one = matched.1 (prefix.s1 q d l w k f p lone before u tidy idle does) (prefix.does1 q d l w k f p lone before u tidy idle does) in
        let two = one.5.1 (prefix.s2 q d l w k f p lone before u tidy idle does) (prefix.does2 q d l w k f p lone before u tidy idle does) in
        let three = two.5.1 (prefix.s3 q d l w k f p lone before u tidy idle does) (prefix.does3 q d l w k f p lone before u tidy idle does) in
        let four = three.5.1 s4 (prefix.does4 q d l w k f p lone before u tidy idle does) in
        let some : four.0 ≢ [] =
        four.4 k _ (prefix.fourth_lies q d l w k f p lone before u tidy idle does) (prefix.fourth_fires q d l w k f p lone before u tidy idle does) refl in
        let joined =
        four_moves G one.0 two.0 three.0 four.0 one.1 two.1 three.1 four.1 one.2 (one.3 ∙ request_shown q 0 done) two.2 two.3 three.2 three.3 four.2 four.3 some in
        let down =
        course.matched_down q d w f p lone.base lone.outcome regular before s0 idle_first G tp tq tails zs all (In (ResultEnd 1) k ∷ []) first_list s4 joined.4 joined.5 asked turns
        (subst (λ (x : Config). IsMatched q G rest s4 x) joined.6 four.5) in (
          joined.0,
          four.1,
          joined.1,
          joined.2,
          λ same. joined.3,
          subst (λ (x : Config). IsSessionMatched p G (zs ++ tp) u x) (sym joined.6)
              (subst (λ (x : Tokens). IsSessionMatched p G (zs ++ tp) x (Running joined.4 joined.5)) seen_is down),
        )

    pub session : Session (program_of p term)
    session = subst (λ (i : Imports). Session (record { imports = i; body = term })) lone.imports in_whole

-- what the law says of a list
abbrev Matches : Plan → Term → Tokens → List Element → Type 0
Matches p n u xs =
    (acts : List Act) × (c : Config) × Moves (program_of p n) acts (Running n []) c × (labels acts ≡ []) × (◌≡◌ {A = ℕ} 1 1 → acts ≢ []) × IsSessionMatched p (program_of p n) xs u c

pub lone_write_is_session : LoneWriteIsSession
lone_write_is_session q d l w k f p m lone regular realises s u t ys tidy idle well does runs turns = by_end well
  where
    one : InputsKeepTurns p [] (In (ResultEnd 1) k ∷ [])
    one = (turns.0, tt)

    later : InputsKeepTurns p (passed p [] (In (ResultEnd 1) k ∷ [])) ys
    later = turns.1

    by_end : EndsWell 1 p ys → Matches p (terms.Assign m (terms.Lit k w)) u ys
    by_end (inl all) =
        subst (Matches p (terms.Assign m (terms.Lit k w)) u) (append-nil ys)
        (session q d l w k f p m lone regular realises s u tidy idle does one [] [] ys
        (no_tails q d w f p lone.base lone.outcome regular s (prefix.s0 q d l w k f p lone s u tidy idle does)
        (prefix.idle_first q d l w k f p lone s u tidy idle does) (program_of q (terms.Assign m (terms.Lit k w)))) all t
        (subst (λ (x : List Element). Runs p x u t) (sym (append-nil ys)) runs)
        (subst (λ (x : List Element). InputsKeepTurns p (passed p [] (In (ResultEnd 1) k ∷ [])) x) (sym (append-nil ys)) later))
    by_end (inr (zs, v, all, is)) =
        subst (Matches p (terms.Assign m (terms.Lit k w)) u) (sym is)
        (session q d l w k f p m lone regular realises s u tidy idle does one (Out (ResultEnd 1) v ∷ []) (Fire d (Ans 1) ∷ Out (ResultEnd 0) 0 ∷ []) zs
        (ended_tails q d w f p lone.base lone.outcome regular lone.run s (prefix.s0 q d l w k f p lone s u tidy idle does)
        (prefix.idle_first q d l w k f p lone s u tidy idle does) (program_of q (terms.Assign m (terms.Lit k w))) v) all t
        (subst (λ (x : List Element). Runs p x u t) is runs) (subst (λ (x : List Element). InputsKeepTurns p (passed p [] (In (ResultEnd 1) k ∷ [])) x) is later))
